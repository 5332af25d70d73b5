-- The types that the modules of the crate speak of.
pub use Rattle.bot_core.specs.declared.action.Action.{Action}
pub use Rattle.bot_core.specs.declared.action.Signal.{Signal}
pub use Rattle.bot_core.specs.declared.bot_event.BotEvent.{BotEvent}
pub use Rattle.bot_core.specs.declared.bot_limits.BotLimits.{BotLimits}
pub use Rattle.bot_core.specs.declared.bot_state.Awaited.{Awaited}
pub use Rattle.bot_core.specs.declared.bot_state.Awaited.TheVariants.{Answer, Begin, Slept}
pub use Rattle.bot_core.specs.declared.bot_state.BotState.{BotState}
pub use Rattle.bot_core.specs.declared.bot_state.Phase.{Phase}
pub use Rattle.bot_requests.specs.declared.hands.Hands.{Hands}
pub use Rattle.refusal_codes.specs.declared.refusal_code.RefusalCode.{RefusalCode}
pub use Rattle.runners.specs.declared.answer.Look.{Look}
pub use Rattle.runners.specs.declared.collect_fault.CollectFault.{CollectFault}
pub use Rattle.server_calls.specs.declared.exchanged.Exchanged.{Exchanged}
pub use Rattle.sw_base.specs.declared.failed.Failed.{Failed}
pub use Rattle.sw_base.specs.declared.start_fault.StartFault.{StartFault}
pub use Rattle.swarm_model.specs.declared.reply.Reply.{Reply}
pub use Rattle.task_props.specs.declared.cache.Cache.{Cache}
pub use Rattle.task_props.specs.declared.file.File.{File}
pub use Rattle.task_props.specs.declared.properties.Properties.{Properties}
