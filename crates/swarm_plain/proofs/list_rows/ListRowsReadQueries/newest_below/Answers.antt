-- Tasks are numbered by their places.
use Rattle.swarm_plain.proofs.Holding.{kept_sound}
use Rattle.swarm_plain.proofs.list_rows.ListRowsReadQueries.newest_below.Goals as goal

pub newest_below-requires : goal.newest_below-requires
newest_below-requires g c = rw c.uncounted_rows.ensures (kept_sound c.self.inside c.self.invariant).tasks_numbered
