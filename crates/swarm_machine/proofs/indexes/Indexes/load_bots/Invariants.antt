use Rattle.std.proofs.Common.{take}
use Rattle.swarm_machine.specs.Indexes.{AreIndexes}
use Rattle.swarm_machine.specs.Loading.{with_bots}
use Rattle.swarm_machine.proofs.indexes.Indexes.load_bots.Given as goal

abbrev pub invariant-loop-place : goal.invariant-loop-place
invariant-loop-place l = AreIndexes l.self (with_bots l.base (take l.place l.base.bots))
