-- The output of a run stays in a row.
use Rattle.std.proofs.Common.{◌≡◌, ℕ, ◌+◌, ◌≤◌, ◌==◌, Bool, true, false, cond, List, [], ◌∷◌, ◌++◌, refl, sym, ap, ◌∙◌, subst, arith, Option, Some, None, IfSome, eqb-true}
use Rattle.std.specs.List.{All}
use Rattle.std.specs.Option.{option_map}
use Rattle.std.proofs.lemmas.Bool.{and_parts, leb-true}
use Rattle.std.proofs.lemmas.List.Elements.{All-nil, All-push}
use Rattle.pool_laws.specs.Types.{Attempt, Chunk, Last}
use Rattle.swarm_model.specs.Effects.{fresh_chunk, with_chunk, killed, with_last_report}
use Rattle.swarm_model.specs.Fits.{fits_chunk}
use Rattle.swarm_model.specs.Output.{AreInRow}
use Rattle.swarm_model.specs.Soundness.{IsSoundOutput}

-- a chunk that follows those in a row
in_row-push : (chunks : List Chunk) (from to : ℕ) (chunk : Chunk) → AreInRow from chunks to → chunk.start ≡ to → AreInRow from (chunks ++ chunk ∷ []) (to + chunk.size)
in_row-push [] from to chunk row next = (next ∙ sym row, ap (λ (n : ℕ). n + chunk.size) row)
in_row-push (c ∷ chunks) from to chunk row next = (row.0, in_row-push chunks (from + c.size) to chunk row.1 next)

-- what a chunk of a report is
pub record IsFitChunk (chunk : Chunk) : Type 0 where
  pub some : 1 ≤ chunk.size
  pub size : chunk.size ≤ 32768
  pub end : chunk.start + chunk.size ≤ 67108864

pub fit_chunk : (chunk : Chunk) → fits_chunk chunk ≡ true → IsFitChunk chunk
fit_chunk chunk may =
    let parts = and_parts _ _ may in
    let within = and_parts _ _ parts.0 in
    record { some = leb-true 1 chunk.size within.0; size = leb-true chunk.size 32768 within.1; end = leb-true (chunk.start + chunk.size) 67108864 parts.1 }

-- a run begins with no output
pub output_begun : (attempt : Attempt) → attempt.chunks ≡ [] → attempt.length ≡ 0 → IsSoundOutput attempt
output_begun attempt none zero =
    record {
      in_row = subst (λ (l : List Chunk). AreInRow 0 l attempt.length) (sym none) (sym zero);
      full = subst (λ (l : List Chunk). All (λ chunk. 1 ≤ chunk.size) l) (sym none) (All-nil (λ (chunk : Chunk). 1 ≤ chunk.size));
      short = omega (arith, zero);
    }

-- a chunk that goes on from it
pub output_longer : (attempt : Attempt) (chunk : Chunk) → IsSoundOutput attempt → chunk.start ≡ attempt.length → IsFitChunk chunk → IsSoundOutput (with_chunk chunk attempt)
output_longer attempt chunk o next fit =
    record {
      in_row = in_row-push attempt.chunks 0 attempt.length chunk o.in_row next;
      full = All-push (λ (c : Chunk). 1 ≤ c.size) attempt.chunks chunk o.full fit.some;
      short = let end = fit.end in omega (arith, end, next);
    }

-- what leaves the output as it is
pub output_killed : (attempt : Attempt) → IsSoundOutput attempt → IsSoundOutput (killed attempt)
output_killed attempt o = record { in_row = o.in_row; full = o.full; short = o.short }

pub output_closed : (attempt : Attempt) (chunk : Option Chunk) (last : Last) → IsSoundOutput attempt → IsSoundOutput (with_last_report chunk last attempt)
output_closed attempt chunk last o = record { in_row = o.in_row; full = o.full; short = o.short }

-- a change of a run, where there is one
pub output_map : (change : Attempt → Attempt) → ((a : Attempt) → IsSoundOutput a → IsSoundOutput (change a)) → (o : Option Attempt) → IfSome o IsSoundOutput → IfSome (option_map change o) IsSoundOutput
output_map change keeps None h = tt
output_map change keeps (Some a) h = keeps a h

-- the chunk of a report, where it goes on from the output
pub fresh_next : (attempt : Attempt) (chunk : Option Chunk) (c : Chunk) → fresh_chunk (Some attempt) chunk ≡ Some c → (chunk ≡ Some c) × (c.start ≡ attempt.length)
fresh_next attempt None c is = absurd (cc (is))
fresh_next attempt (Some chunk) c is = by_test (chunk.start == attempt.length) refl is
  where
    by_test : (t : Bool) → (chunk.start == attempt.length) ≡ t → cond t (Some chunk) None ≡ Some c → (Some chunk ≡ Some c) × (c.start ≡ attempt.length)
    by_test true at e =
        let same : chunk ≡ c = cc (e) in
        (e, subst (λ (x : Chunk). x.start ≡ attempt.length) same (eqb-true chunk.start attempt.length at))
    by_test false at e = absurd (cc (e))
