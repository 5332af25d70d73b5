-- The types that the modules of the crate speak of.
pub use Rattle.swarm_model.specs.declared.answer.Answer.{Answer}
pub use Rattle.swarm_model.specs.declared.entry.EntryKind.{EntryKind}
pub use Rattle.swarm_model.specs.declared.pool_settings.PoolSettings.{PoolSettings}
pub use Rattle.swarm_model.specs.declared.pool_state.PoolState.{PoolState}
pub use Rattle.swarm_model.specs.declared.reply.Reply.{Reply}
pub use Rattle.swarm_model.specs.declared.request.Request.{Request}
pub use Rattle.swarm_model.specs.declared.task_state.TaskState.{TaskState}
pub use Rattle.swarm_model.specs.declared.task_state.TaskState.TheVariants.{BotDied, Canceled, Completed, Expired, Killed, NoResource, Pending, Running, TimedOut}
pub use Rattle.task_props.specs.declared.new_task.NewTask.{NewTask}
pub use Rattle.task_props.specs.declared.properties.Properties.{Properties}
pub use Rattle.task_props.specs.declared.slice.Slice.{Slice}
