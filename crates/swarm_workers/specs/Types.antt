-- The types that the modules of the crate speak of.
pub use Rattle.shared_doors.specs.declared.view.Lasting.{Lasting}
pub use Rattle.shared_doors.specs.declared.view.PoolView.{PoolView}
pub use Rattle.swarm_http.specs.declared.ended.Ended.{Ended}
pub use Rattle.swarm_model.specs.declared.entry.Entry.{Entry}
pub use Rattle.swarm_model.specs.declared.pool_settings.PoolSettings.{PoolSettings}
pub use Rattle.swarm_model.specs.declared.pool_settings.Settings.{Settings}
pub use Rattle.turnstile.specs.declared.pass.Pass.{Pass}
pub use Rattle.turnstile.specs.declared.turnstile.Turnstile.{Turnstile}
