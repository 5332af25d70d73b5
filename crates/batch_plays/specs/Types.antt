-- The types that the modules of the crate speak of.
pub use Rattle.refusal_codes.specs.declared.refusal_code.RefusalCode.{RefusalCode}
pub use Rattle.server_calls.specs.declared.told.Told.{Told}
pub use Rattle.swarm_batch.specs.declared.mark.Mark.{Mark}
pub use Rattle.swarm_model.specs.declared.entry.Entry.{Entry}
pub use Rattle.swarm_model.specs.declared.pool_settings.PoolSettings.{PoolSettings}
pub use Rattle.swarm_model.specs.declared.pool_settings.Settings.{Settings}
pub use Rattle.swarm_model.specs.declared.reply.Reply.{Reply}
pub use Rattle.swarm_model.specs.declared.request.Request.{Request}
pub use Rattle.swarm_model.specs.declared.task_state.TaskState.{TaskState}
pub use Rattle.swarm_wire.specs.declared.asked.Asked.{Asked}
pub use Rattle.swarm_wire.specs.declared.asked.WireFault.{WireFault}
pub use Rattle.swarm_wire.specs.declared.parts.Parts.{Parts}
pub use Rattle.task_props.specs.declared.new_task.NewTask.{NewTask}
