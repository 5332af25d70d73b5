-- The types that the modules of the crate speak of.
pub use Rattle.base_lines.specs.declared.base_rows.BaseRows.{BaseRows}
pub use Rattle.blob_rows.specs.declared.blob_row.BlobRow.{BlobRow}
pub use Rattle.blob_rows.specs.declared.filled.Filled.TheVariants.{Done}
pub use Rattle.dimensions.specs.declared.text.Text.{Text}
pub use Rattle.swarm_model.specs.declared.entry.Entry.{Entry}
pub use Rattle.swarm_model.specs.declared.pool_settings.PoolSettings.{PoolSettings}
pub use Rattle.swarm_model.specs.declared.pool_state.PoolState.{PoolState}
