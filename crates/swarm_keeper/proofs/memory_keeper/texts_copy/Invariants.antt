use Rattle.std.proofs.Common.{◌≡◌, take}
use Rattle.swarm_keeper.proofs.memory_keeper.texts_copy.Given as goal

abbrev pub invariant-loop-text : goal.invariant-loop-text
invariant-loop-text l = l.copies.items ≡ take l.text-index l.texts
