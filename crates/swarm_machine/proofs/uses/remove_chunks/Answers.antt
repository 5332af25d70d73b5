use Rattle.std.proofs.Common.{ℕ, cond, List}
use Rattle.swarm_model.specs.declared.attempt.Chunk.{Chunk}
use Rattle.swarm_model.specs.Uses.{is_chunk_of}
use Rattle.swarm_machine.proofs.UsesChange.{chunk_at, chunk_at_is, one_used, one_lost, uses_for_item, loses_item}
use Rattle.swarm_machine.proofs.uses.remove_chunks.Goals as goal

abbrev takes : List ℕ → Chunk → ℕ
takes digest chunk = cond (is_chunk_of digest chunk) 1 0

pub remove-requires : goal.remove-requires
remove-requires c =
    let chunks = c.args.chunks.now in
    let place = c.loop-chunk.chunk-index in
    let within = c.loop-chunk-test.true in
    record {
      used = one_used (chunk_at chunks place).digest c.loop-chunk.uses
          (uses_for_item chunks place (chunk_at chunks place) within (chunk_at_is chunks place within) takes c.args.uses.now c.loop-chunk.uses c.requires c.loop-chunk.invariant);
    }

pub loop-chunk-preserved : goal.loop-chunk-preserved
loop-chunk-preserved c =
    let old = c.args.uses.now in
    let now = c.loop-chunk.uses in
    let new = c.remove.new.self in
    let chunks = c.args.chunks.now in
    let place = c.loop-chunk.chunk-index in
    let within = c.loop-chunk-test.true in
    let chunk = chunk_at chunks place in
    let is = chunk_at_is chunks place within in
    let used = one_used chunk.digest now (uses_for_item chunks place chunk within is takes old now c.requires c.loop-chunk.invariant) in
    loses_item chunks place chunk within is takes old now new c.loop-chunk.invariant (one_lost chunk.digest now new used c.remove.ensures.counts)
