-- Tasks are numbered by their places, and the settings allow few.
use Rattle.swarm_machine.proofs.Holding.{kept_sound, few_tasks}
use Rattle.swarm_machine.proofs.indexed_rows.IndexedRowsReadQueries.newest_below.Goals as goal

pub newest_below-requires-clause-numbered : goal.newest_below-requires-clause-numbered
newest_below-requires-clause-numbered g c = (kept_sound c.self.inside c.self.invariant).tasks_numbered

pub newest_below-requires-clause-few : goal.newest_below-requires-clause-few
newest_below-requires-clause-few g c = few_tasks c.self.inside c.self.invariant
