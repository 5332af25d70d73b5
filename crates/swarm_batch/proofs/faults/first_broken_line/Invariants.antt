use Rattle.std.proofs.Common.{◌≡◌, ◌+◌, drop}
use Rattle.swarm_batch.specs.Broken.{first_broken}
use Rattle.swarm_batch.proofs.faults.first_broken_line.Given as goal

abbrev pub invariant-loop-place : goal.invariant-loop-place
invariant-loop-place l = first_broken 1 l.lines ≡ first_broken (l.place + 1) (drop l.place l.lines)
