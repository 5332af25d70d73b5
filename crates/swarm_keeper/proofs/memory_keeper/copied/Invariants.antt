use Rattle.std.proofs.Common.{◌≡◌, take}
use Rattle.swarm_keeper.proofs.memory_keeper.copied.Given as goal

abbrev pub invariant-loop-blob : goal.invariant-loop-blob
invariant-loop-blob l = l.copies.items ≡ take l.blob-index l.blobs
