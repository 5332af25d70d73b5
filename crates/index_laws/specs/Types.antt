-- The types that the modules of the crate speak of.
pub use Rattle.blob_rows.specs.declared.blob_row.BlobRow.{BlobRow}
pub use Rattle.dim_queue.specs.declared.queue_set.QueueSet.{QueueSet}
pub use Rattle.dim_queue.specs.declared.waiting.Waiting.{Waiting}
pub use Rattle.dimensions.specs.declared.bot_dims.BotDims.{BotDims}
pub use Rattle.pool_index.specs.declared.claim_link.ClaimLink.{ClaimLink}
pub use Rattle.pool_index.specs.declared.source_link.SourceLink.{SourceLink}
pub use Rattle.pool_index.specs.declared.uuid_link.UuidLink.{UuidLink}
pub use Rattle.swarm_model.specs.declared.attempt.Attempt.{Attempt}
pub use Rattle.swarm_model.specs.declared.attempt.Chunk.{Chunk}
pub use Rattle.swarm_model.specs.declared.attempt.Last.{Last}
pub use Rattle.swarm_model.specs.declared.bot_row.BotRow.{BotRow}
pub use Rattle.swarm_model.specs.declared.deadline.Deadline.{Deadline}
pub use Rattle.swarm_model.specs.declared.entry.Entry.{Entry}
pub use Rattle.swarm_model.specs.declared.entry.EntryKind.{EntryKind}
pub use Rattle.swarm_model.specs.declared.entry.Outcome.{Outcome}
pub use Rattle.swarm_model.specs.declared.pool_state.PoolState.{PoolState}
pub use Rattle.swarm_model.specs.declared.retried.Retried.{Retried}
pub use Rattle.swarm_model.specs.declared.task_row.TaskRow.{TaskRow}
pub use Rattle.swarm_model.specs.declared.task_state.TaskState.{TaskState}
pub use Rattle.swarm_model.specs.declared.task_state.TaskState.TheVariants.{BotDied, Completed, Expired, Killed, NoResource, Pending, Running, TimedOut}
pub use Rattle.task_props.specs.declared.slice.Slice.{Slice}
