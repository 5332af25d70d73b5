-- The types that the modules of the crate speak of.
pub use Rattle.blob_rows.specs.declared.blob_row.BlobRow.{BlobRow}
pub use Rattle.dimensions.specs.declared.text.Text.{Text}
pub use Rattle.swarm_model.specs.declared.attempt.Attempt.{Attempt}
pub use Rattle.swarm_model.specs.declared.attempt.Chunk.{Chunk}
pub use Rattle.swarm_model.specs.declared.attempt.Last.{Last}
pub use Rattle.swarm_model.specs.declared.bot_row.BotRow.{BotRow}
pub use Rattle.swarm_model.specs.declared.pool_settings.PoolSettings.{PoolSettings}
pub use Rattle.swarm_model.specs.declared.pool_state.PoolState.{PoolState}
pub use Rattle.swarm_model.specs.declared.retried.Retried.{Retried}
pub use Rattle.swarm_model.specs.declared.task_row.TaskRow.{TaskRow}
