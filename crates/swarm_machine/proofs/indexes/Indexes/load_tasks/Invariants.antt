use Rattle.std.proofs.Common.{take}
use Rattle.swarm_machine.specs.Indexes.{AreIndexes}
use Rattle.swarm_machine.specs.Loading.{with_tasks}
use Rattle.swarm_machine.proofs.indexes.Indexes.load_tasks.Given as goal

abbrev pub invariant-loop-place : goal.invariant-loop-place
invariant-loop-place l = AreIndexes l.self (with_tasks l.base (take l.place l.base.tasks))
