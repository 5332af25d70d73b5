-- The types that the modules of the crate speak of.
pub use Rattle.bot_core.specs.declared.action.Action.{Action}
pub use Rattle.bot_core.specs.declared.action.End.{End}
pub use Rattle.bot_core.specs.declared.bot_event.BotEvent.{BotEvent}
pub use Rattle.bot_core.specs.declared.bot_limits.BotLimits.{BotLimits}
pub use Rattle.bot_core.specs.declared.bot_state.Awaited.{Awaited}
pub use Rattle.bot_core.specs.declared.bot_state.Awaited.TheVariants.{Answer, Begin, Slept}
pub use Rattle.bot_core.specs.declared.bot_state.BotState.{BotState}
pub use Rattle.bot_core.specs.declared.bot_state.Phase.{Phase}
pub use Rattle.dimensions.specs.declared.bot_dims.BotDims.{BotDims}
pub use Rattle.swarm_model.specs.declared.attempt.Attempt.{Attempt}
pub use Rattle.swarm_model.specs.declared.attempt.Chunk.{Chunk}
pub use Rattle.swarm_model.specs.declared.attempt.Last.{Last}
pub use Rattle.swarm_model.specs.declared.bot_row.BotRow.{BotRow}
pub use Rattle.swarm_model.specs.declared.entry.Entry.{Entry}
pub use Rattle.swarm_model.specs.declared.entry.EntryKind.{EntryKind}
pub use Rattle.swarm_model.specs.declared.pool_state.PoolState.{PoolState}
pub use Rattle.swarm_model.specs.declared.reply.Reply.{Reply}
pub use Rattle.swarm_model.specs.declared.request.Request.{Request}
pub use Rattle.swarm_model.specs.declared.task_row.TaskRow.{TaskRow}
pub use Rattle.task_props.specs.declared.properties.Properties.{Properties}
