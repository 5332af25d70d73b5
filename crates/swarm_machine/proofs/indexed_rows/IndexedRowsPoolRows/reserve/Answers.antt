-- The settings allow few tasks and few bots.
use Rattle.swarm_machine.proofs.Holding.{few_tasks, few_bots}
use Rattle.swarm_machine.proofs.indexed_rows.IndexedRowsPoolRows.reserve.Goals as goal

pub make_ready-requires-clause-few_tasks : goal.make_ready-requires-clause-few_tasks
make_ready-requires-clause-few_tasks c = few_tasks c.self.inside c.self.invariant

pub make_ready-requires-clause-few_bots : goal.make_ready-requires-clause-few_bots
make_ready-requires-clause-few_bots c = few_bots c.self.inside c.self.invariant
