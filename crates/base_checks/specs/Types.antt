-- The types that the modules of the crate speak of.
pub use Rattle.blob_rows.specs.declared.blob_row.BlobRow.{BlobRow}
pub use Rattle.swarm_model.specs.declared.attempt.Attempt.{Attempt}
pub use Rattle.swarm_model.specs.declared.attempt.Chunk.{Chunk}
pub use Rattle.swarm_model.specs.declared.bot_row.BotRow.{BotRow}
pub use Rattle.swarm_model.specs.declared.deadline.Deadline.{Deadline}
pub use Rattle.swarm_model.specs.declared.pool_state.PoolState.{PoolState}
pub use Rattle.swarm_model.specs.declared.retried.Retried.{Retried}
pub use Rattle.swarm_model.specs.declared.task_row.TaskRow.{TaskRow}
pub use Rattle.swarm_model.specs.declared.task_state.TaskState.TheVariants.{Completed, Running}
pub use Rattle.task_props.specs.declared.file.File.{File}
pub use Rattle.task_props.specs.declared.slice.Slice.{Slice}
