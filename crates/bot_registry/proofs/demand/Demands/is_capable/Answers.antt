-- The count of a set that is known is that of the bots that could run it.
use Rattle.std.proofs.Common.{sym}
use Rattle.bot_registry.proofs.Demands.{known_set_tells}
use Rattle.bot_registry.proofs.demand.Demands.is_capable.Goals as goal

pub returns-in-Some : goal.returns-in-Some
returns-in-Some c =
    known_set_tells c.args.rows.now c.args.dims.now c.args.self.now.sets.items c.in-Some.demand.now
    (rw c.deref.ensures.value at (rw c.in-Some.is at (sym c.known_set.ensures))) c.requires.counted
