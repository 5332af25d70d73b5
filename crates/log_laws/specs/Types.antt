-- The types that the modules of the crate speak of.
pub use Rattle.dimensions.specs.declared.bot_dims.BotDims.{BotDims}
pub use Rattle.swarm_model.specs.declared.answer.Decision.{Decision}
pub use Rattle.swarm_model.specs.declared.attempt.Attempt.{Attempt}
pub use Rattle.swarm_model.specs.declared.attempt.Chunk.{Chunk}
pub use Rattle.swarm_model.specs.declared.attempt.Last.{Last}
pub use Rattle.swarm_model.specs.declared.bot_row.BotRow.{BotRow}
pub use Rattle.swarm_model.specs.declared.entry.Entry.{Entry}
pub use Rattle.swarm_model.specs.declared.entry.EntryKind.{EntryKind}
pub use Rattle.swarm_model.specs.declared.pool_state.PoolState.{PoolState}
pub use Rattle.swarm_model.specs.declared.reply.Reply.{Reply}
pub use Rattle.swarm_model.specs.declared.request.Request.{Request}
pub use Rattle.swarm_model.specs.declared.retried.Retried.{Retried}
pub use Rattle.swarm_model.specs.declared.task_row.TaskRow.{TaskRow}
pub use Rattle.swarm_model.specs.declared.task_state.TaskState.{TaskState}
pub use Rattle.task_props.specs.declared.new_task.NewTask.{NewTask}
pub use Rattle.task_props.specs.declared.properties.Properties.{Properties}
pub use Rattle.task_props.specs.declared.slice.Slice.{Slice}
