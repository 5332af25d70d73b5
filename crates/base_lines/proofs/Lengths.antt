-- The length of a run, chunk by chunk.
use Rattle.std.proofs.Common.{◌≡◌, ℕ, ◌+◌, ◌<◌, ◌≤◌, ◌^◌, List, [], ◌∷◌, Some, length, take, refl, sym, ap, ◌∙◌, arith}
use Rattle.std.proofs.lemmas.Bool.{lt-ltb}
use Rattle.std.proofs.lemmas.List.{take_all}
use Rattle.std.proofs.lemmas.List.Sums.{sum_by-cons}
use Rattle.base_lines.specs.Types.{Attempt, Chunk}
use Rattle.swarm_model.specs.Output.{AreInRow}
use Rattle.swarm_model.specs.Soundness.{IsSoundOutput}
use Rattle.line_parts.specs.Finding.{below}
use Rattle.base_lines.specs.Computed.{size_of}
use Rattle.base_lines.specs.Attempts.{IsMeasured}

-- the chunks up to the end are all
pub all_counted : (chunks : List Chunk) (i n : ℕ) → length chunks ≤ i → n ≡ size_of (take i chunks) → n < 2 ^ 32 → below (2 ^ 32) (size_of chunks) ≡ Some n
all_counted chunks i n past is low =
    let size : size_of chunks ≡ n = sym (is ∙ ap (λ (l : List Chunk). size_of l) (take_all i chunks past)) in
    ap (λ (k : ℕ). below (2 ^ 32) k) size ∙ within n low
  where
    within : (k : ℕ) → k < 2 ^ 32 → below (2 ^ 32) k ≡ Some k
    within k h = rw (lt-ltb k (2 ^ 32) h) refl

-- chunks in a row end where their sizes come to
row_ends : (from : ℕ) (chunks : List Chunk) (to : ℕ) → AreInRow from chunks to → to ≡ from + size_of chunks
row_ends from [] to row = omega (arith, row)
row_ends from (chunk ∷ chunks) to row =
    let rest = row_ends (from + chunk.size) chunks to row.1 in
    let all = sum_by-cons (λ (c : Chunk). c.size) chunk chunks in
    omega (arith, rest, all)

-- so a sound run has the length that is computed
pub measured : (attempt : Attempt) → IsSoundOutput attempt → IsMeasured attempt
measured attempt output =
    let all = row_ends 0 attempt.chunks attempt.length output.in_row in
    let short = output.short in
    (omega (arith, all), omega (arith, short))
