-- The deadlines at hand are those of the rows.
use Rattle.common_rows.specs.Rows.{state_of}
use Rattle.swarm_machine.proofs.Holding.{kept_sound}
use Rattle.swarm_machine.proofs.indexed_rows.IndexedRowsPoolQueries.next_deadline.Goals as goal

pub returns : goal.returns
returns c = rw (← c.self.view_is) (c.next_deadline.ensures (state_of c.self.inside.rows) (kept_sound c.self.inside c.self.invariant) c.self.invariant.indexed)
