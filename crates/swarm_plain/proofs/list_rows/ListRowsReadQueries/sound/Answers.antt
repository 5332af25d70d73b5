-- The rows are those that a log leads to.
use Rattle.swarm_plain.proofs.Holding.{kept_sound}
use Rattle.swarm_plain.proofs.list_rows.ListRowsReadQueries.sound.Goals as goal

pub returns : goal.returns
returns c = rw (← c.self.view_is) (kept_sound c.self.inside c.self.invariant)
