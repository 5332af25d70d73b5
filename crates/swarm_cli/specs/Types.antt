-- The types that the modules of the crate speak of.
pub use Rattle.pool_loading.specs.declared.store_part.StorePart.{StorePart}
pub use Rattle.sw_base.specs.declared.start_fault.StartFault.{StartFault}
pub use Rattle.swarm_history.specs.declared.checkpoint_fault.CheckpointFault.{CheckpointFault}
pub use Rattle.swarm_history.specs.declared.checkpoint_fault.CheckpointWhy.{CheckpointWhy}
pub use Rattle.swarm_history.specs.declared.load_fault.LoadFault.{LoadFault}
pub use Rattle.swarm_http.specs.declared.ended.Ended.{Ended}
pub use Rattle.swarm_http.specs.declared.ended.Ended.TheVariants.{BadHead, Closed, CutShort, LastAsked, ReadFault, Retired, WriteFault}
pub use Rattle.swarm_model.specs.declared.entry.Entry.{Entry}
pub use Rattle.swarm_model.specs.declared.pool_settings.PoolSettings.{PoolSettings}
pub use Rattle.swarm_model.specs.declared.pool_settings.Settings.{Settings}
pub use Rattle.swarm_policy.specs.declared.settings_fault.SettingsFault.{SettingsFault}
pub use Rattle.swarm_workers.specs.declared.worked.WorkStop.{WorkStop}
