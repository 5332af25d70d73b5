use Rattle.std.proofs.Common.{◌≡◌, take}
use Rattle.std.specs.List.{sum_by}
use Rattle.swarm_model.specs.Words.{capped}
use Rattle.swarm_model.proofs.weighing.weight_of_all.Given as goal

abbrev pub invariant-loop-item : goal.invariant-loop-item
invariant-loop-item g l = l.sum ≡ capped (sum_by g.T.Weighs.weight (take l.item-index l.items))
