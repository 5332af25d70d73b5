-- The chunks so far are counted.
use Rattle.std.proofs.Common.{take}
use Rattle.std.specs.List.{count_by}
use Rattle.swarm_model.specs.Uses.{is_chunk_of}
use Rattle.swarm_machine.specs.Uses.{AddsUses}
use Rattle.swarm_machine.proofs.uses.load_chunks.Given as goal

abbrev pub invariant-loop-chunk : goal.invariant-loop-chunk
invariant-loop-chunk l = AddsUses (λ digest. count_by (is_chunk_of digest) (take l.chunk-index l.chunks)) l.fn.uses l.uses
