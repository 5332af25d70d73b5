-- The types that the modules of the crate speak of.
pub use Rattle.pool_doors.specs.declared.door.Answered.{Answered}
pub use Rattle.pool_doors.specs.declared.door.CallFault.{CallFault}
pub use Rattle.request_head.specs.declared.after.After.{After}
pub use Rattle.request_head.specs.declared.after.After.TheVariants.{Absent, Broken, Front}
pub use Rattle.request_head.specs.declared.head_refusal.HeadRefusal.{HeadRefusal}
pub use Rattle.request_head.specs.declared.head_refusal.HeadRefusal.TheVariants.{Bad, LengthRequired, TooLarge}
pub use Rattle.request_head.specs.declared.method.Method.{Method}
pub use Rattle.request_head.specs.declared.method.Method.TheVariants.{Get, Head, Other, Post, Put}
pub use Rattle.routes.specs.declared.resource.Resource.{Resource}
pub use Rattle.routes.specs.declared.resource.Resource.TheVariants.{Blob, Call}
pub use Rattle.routes.specs.declared.route.Route.{Route}
pub use Rattle.swarm_model.specs.declared.entry.Entry.{Entry}
pub use Rattle.swarm_model.specs.declared.permission.Permission.{Permission}
pub use Rattle.swarm_model.specs.declared.pool_settings.PoolSettings.{PoolSettings}
pub use Rattle.swarm_model.specs.declared.pool_settings.Settings.{Settings}
pub use Rattle.swarm_model.specs.declared.reply.Reply.{Reply}
pub use Rattle.swarm_model.specs.declared.rule.Rule.{Rule}
pub use Rattle.swarm_wire.specs.declared.asked.Asked.{Asked}
pub use Rattle.swarm_wire.specs.declared.asked.WireFault.{WireFault}
pub use Rattle.swarm_wire.specs.declared.parts.Parts.{Parts}
