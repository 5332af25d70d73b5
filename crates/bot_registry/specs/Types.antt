-- The types that the modules of the crate speak of.
pub use Rattle.dimensions.specs.declared.bot_dims.BotDims.{BotDims}
pub use Rattle.dimensions.specs.declared.dim_set.DimSet.{DimSet}
pub use Rattle.dimensions.specs.declared.text.Text.{Text}
pub use Rattle.row_changes.specs.declared.parts.BotParts.{BotParts}
pub use Rattle.swarm_model.specs.declared.bot_row.BotRow.{BotRow}
pub use Rattle.swarm_model.specs.declared.entry.EntryKind.{EntryKind}
