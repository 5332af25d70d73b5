use Rattle.swarm_machine.proofs.Loading.{may_load}
use Rattle.swarm_machine.proofs.indexes.Indexes.of_base.Goals as goal

pub load_bots-requires-clause-may : goal.load_bots-requires-clause-may
load_bots-requires-clause-may c = may_load c.args.base.now c.requires.rules c.requires.base

pub load_bots-requires-clause-before : goal.load_bots-requires-clause-before
load_bots-requires-clause-before c = c.new-indexes.ensures c.args.base.now

pub load_tasks-requires-clause-may : goal.load_tasks-requires-clause-may
load_tasks-requires-clause-may c = may_load c.args.base.now c.requires.rules c.requires.base
