-- A log leads to the rows.
use Rattle.swarm_plain.proofs.Holding.{kept_sound}
use Rattle.swarm_plain.proofs.list_rows.ListRowsPoolQueries.next_deadline.Goals as goal

pub next_deadline-requires : goal.next_deadline-requires
next_deadline-requires c = kept_sound c.self.inside c.self.invariant
