-- The types that the modules of the crate speak of.
pub use Rattle.routes.specs.declared.route.Route.{Route}
pub use Rattle.swarm_model.specs.declared.bot_view.BotView.{BotView}
pub use Rattle.swarm_model.specs.declared.task_state.TaskState.{TaskState}
pub use Rattle.swarm_model.specs.declared.task_view.TaskView.{TaskView}
pub use Rattle.task_props.specs.declared.prop_fault.PropFault.{PropFault}
pub use Rattle.task_props.specs.declared.prop_fault.PropFault.TheVariants.{Broken}
pub use Rattle.task_props.specs.declared.prop_rule.PropRule.{PropRule}
pub use Rattle.task_props.specs.declared.prop_rule.PropRule.TheVariants.{Grammar, Missing, Range, WrongType}
