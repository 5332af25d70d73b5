use Rattle.std.proofs.Common.{ℕ, cond, List}
use Rattle.swarm_model.specs.declared.attempt.Chunk.{Chunk}
use Rattle.swarm_model.specs.Uses.{is_chunk_of}
use Rattle.swarm_machine.proofs.UsesChange.{chunk_at, chunk_at_is, one_small, one_gained, room_for_item, gains_item}
use Rattle.swarm_machine.proofs.uses.load_chunks.Goals as goal

abbrev adds : List ℕ → Chunk → ℕ
adds digest chunk = cond (is_chunk_of digest chunk) 1 0

pub load_use-requires : goal.load_use-requires
load_use-requires c =
    let chunks = c.args.chunks.now in
    let place = c.loop-chunk.chunk-index in
    let within = c.loop-chunk-test.true in
    one_small (chunk_at chunks place).digest c.loop-chunk.uses (room_for_item chunks place (chunk_at chunks place) within (chunk_at_is chunks place within) adds c.args.uses.now c.loop-chunk.uses c.requires c.loop-chunk.invariant)

pub loop-chunk-preserved : goal.loop-chunk-preserved
loop-chunk-preserved c =
    let chunks = c.args.chunks.now in
    let place = c.loop-chunk.chunk-index in
    let within = c.loop-chunk-test.true in
    let chunk = chunk_at chunks place in
    gains_item chunks place chunk within (chunk_at_is chunks place within) adds c.args.uses.now c.loop-chunk.uses c.load_use.new.uses c.loop-chunk.invariant
    (one_gained chunk.digest c.loop-chunk.uses c.load_use.new.uses c.in_ok-load_use.ensures)
