-- The chunks so far are taken off.
use Rattle.std.proofs.Common.{take}
use Rattle.std.specs.List.{count_by}
use Rattle.swarm_model.specs.Uses.{is_chunk_of}
use Rattle.swarm_machine.specs.Uses.{RemovesUses}
use Rattle.swarm_machine.proofs.uses.remove_chunks.Given as goal

abbrev pub invariant-loop-chunk : goal.invariant-loop-chunk
invariant-loop-chunk l = RemovesUses (λ digest. count_by (is_chunk_of digest) (take l.chunk-index l.chunks)) l.fn.uses l.uses
