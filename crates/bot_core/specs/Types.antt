-- The types that the modules of the crate speak of.
pub use Rattle.bot_core.specs.declared.action.Action.{Action}
pub use Rattle.bot_core.specs.declared.action.End.{End}
pub use Rattle.bot_core.specs.declared.action.Signal.TheVariants.{Kill, Term}
pub use Rattle.bot_core.specs.declared.action.StopWhy.{StopWhy}
pub use Rattle.bot_core.specs.declared.bot_event.BotEvent.{BotEvent}
pub use Rattle.bot_core.specs.declared.bot_limits.BotLimits.{BotLimits}
pub use Rattle.bot_core.specs.declared.bot_state.Awaited.{Awaited}
pub use Rattle.bot_core.specs.declared.bot_state.Awaited.TheVariants.{Answer, Begin, Slept}
pub use Rattle.bot_core.specs.declared.bot_state.BotState.{BotState}
pub use Rattle.bot_core.specs.declared.bot_state.Phase.{Phase}
pub use Rattle.bot_core.specs.declared.run.Run.{Run}
pub use Rattle.refusal_codes.specs.declared.refusal_code.RefusalCode.{RefusalCode}
