-- A name that is not held belongs between others.
use Rattle.std.proofs.Common.{ap, is_some}
use Rattle.content_store.proofs.Found.{no_slot}
use Rattle.content_store.proofs.Laying.{held_at}
use Rattle.content_store.proofs.holding.hold_at.Goals as goal

pub unreachable-requires : goal.unreachable-requires
unreachable-requires c =
    cc (c.requires.fresh.1, ap is_some (held_at c.requires.fresh.0 c.args.slots.now.items c.args.digest.now c.in-Ok.field-0 no_slot c.requires.laid_out.sorted c.in-Ok.ensures))
