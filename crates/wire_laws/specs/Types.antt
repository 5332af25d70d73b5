-- The types that the modules of the crate speak of.
pub use Rattle.bot_core.specs.declared.action.End.{End}
pub use Rattle.bot_core.specs.declared.bot_state.BotState.{BotState}
pub use Rattle.bot_requests.specs.declared.hands.Hands.{Hands}
pub use Rattle.routes.specs.declared.resource.Resource.TheVariants.{Blob, Call}
pub use Rattle.routes.specs.declared.route.Route.{Route}
pub use Rattle.swarm_model.specs.declared.attempt.Last.{Last}
pub use Rattle.swarm_model.specs.declared.bot_view.BotView.{BotView}
pub use Rattle.swarm_model.specs.declared.reply.Reply.{Reply}
pub use Rattle.swarm_model.specs.declared.rule.Rule.{Rule}
pub use Rattle.swarm_model.specs.declared.task_state.TaskState.{TaskState}
pub use Rattle.swarm_model.specs.declared.task_view.TaskView.{TaskView}
pub use Rattle.task_checks.specs.declared.raw_task.RawFile.{RawFile}
pub use Rattle.task_props.specs.declared.cache.Cache.{Cache}
pub use Rattle.task_props.specs.declared.file.File.{File}
pub use Rattle.task_props.specs.declared.prop_rule.PropRule.{PropRule}
pub use Rattle.task_props.specs.declared.properties.Properties.{Properties}
