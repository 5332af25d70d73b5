-- Tasks are numbered by their places, and the settings allow few.
use Rattle.swarm_machine.proofs.Holding.{kept_sound, few_tasks}
use Rattle.swarm_machine.proofs.indexed_rows.IndexedRows.row.Goals as goal

pub task_of-requires-clause-numbered : goal.task_of-requires-clause-numbered
task_of-requires-clause-numbered g c = (kept_sound c.self.inside c.self.invariant).tasks_numbered

pub task_of-requires-clause-few : goal.task_of-requires-clause-few
task_of-requires-clause-few g c = few_tasks c.self.inside c.self.invariant
