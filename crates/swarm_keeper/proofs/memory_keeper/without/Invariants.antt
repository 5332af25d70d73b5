use Rattle.std.proofs.Common.{◌≡◌, take, filter}
use Rattle.swarm_keeper.specs.Tables.{is_other}
use Rattle.swarm_keeper.proofs.memory_keeper.without.Given as goal

abbrev pub invariant-loop-blob : goal.invariant-loop-blob
invariant-loop-blob l = l.rest.items ≡ filter (is_other l.digest) (take l.blob-index l.blobs)
