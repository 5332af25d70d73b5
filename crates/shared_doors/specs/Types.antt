-- The types that the modules of the crate speak of.
pub use Rattle.pool_doors.specs.declared.door.Answered.{Answered}
pub use Rattle.pool_doors.specs.declared.door.CallFault.{CallFault}
pub use Rattle.swarm_model.specs.declared.entry.Entry.{Entry}
pub use Rattle.swarm_model.specs.declared.pool_settings.PoolSettings.{PoolSettings}
pub use Rattle.swarm_model.specs.declared.pool_settings.Settings.{Settings}
pub use Rattle.swarm_model.specs.declared.pool_state.PoolState.{PoolState}
pub use Rattle.swarm_model.specs.declared.request.Request.{Request}
pub use Rattle.turnstile.specs.declared.pass.Pass.{Pass}
pub use Rattle.turnstile.specs.declared.turn.Turn.{Turn}
pub use Rattle.turnstile.specs.declared.turnstile.Turnstile.{Turnstile}
