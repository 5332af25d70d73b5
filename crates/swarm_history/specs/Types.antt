-- The types that the modules of the crate speak of.
pub use Rattle.blob_rows.specs.declared.blob_row.BlobRow.{BlobRow}
pub use Rattle.blob_rows.specs.declared.filled.Filled.TheVariants.{Differs, Done, Unknown}
pub use Rattle.pool_doors.specs.declared.door.Answered.{Answered}
pub use Rattle.pool_doors.specs.declared.door.CallFault.{CallFault}
pub use Rattle.pool_loading.specs.declared.loading.LoadStop.{LoadStop}
pub use Rattle.pool_loading.specs.declared.store_part.StorePart.{StorePart}
pub use Rattle.swarm_model.specs.declared.attempt.Chunk.{Chunk}
pub use Rattle.swarm_model.specs.declared.entry.Entry.{Entry}
pub use Rattle.swarm_model.specs.declared.entry.EntryKind.{EntryKind}
pub use Rattle.swarm_model.specs.declared.pool_settings.PoolSettings.{PoolSettings}
pub use Rattle.swarm_model.specs.declared.pool_settings.Settings.{Settings}
pub use Rattle.swarm_model.specs.declared.pool_state.PoolState.{PoolState}
pub use Rattle.swarm_model.specs.declared.reply.Part.{Part}
pub use Rattle.swarm_model.specs.declared.reply.Reply.{Reply}
pub use Rattle.swarm_model.specs.declared.request.Request.{Request}
