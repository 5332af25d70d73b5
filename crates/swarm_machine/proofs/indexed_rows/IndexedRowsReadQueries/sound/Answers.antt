-- The rows are those that a log leads to.
use Rattle.swarm_machine.proofs.Holding.{kept_sound}
use Rattle.swarm_machine.proofs.indexed_rows.IndexedRowsReadQueries.sound.Goals as goal

pub returns : goal.returns
returns c = rw (← c.self.view_is) (kept_sound c.self.inside c.self.invariant)
