use Rattle.std.proofs.Common.{◌≡◌, take}
use Rattle.swarm_model.specs.Output.{parts_within}
use Rattle.pool_queries.proofs.output.parts_within.Given as goal

abbrev pub invariant-loop-chunk : goal.invariant-loop-chunk
invariant-loop-chunk l = l.parts.items ≡ parts_within l.from l.to (take l.chunk-index l.chunks)
