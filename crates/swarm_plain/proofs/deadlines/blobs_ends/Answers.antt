-- One blob more is looked at.
use Rattle.std.proofs.Common.{◌≡◌, ℕ, zero, suc, ◌+◌, List, [], ◌∷◌, length, take, map, Option, refl, sym, ap, ◌∙◌, arith}
use Rattle.std.specs.Prelude.{slice_get}
use Rattle.std.specs.List.{fold}
use Rattle.std.specs.Option.{option_map, option_to_list}
use Rattle.std.proofs.Math.Seq.{take-length}
use Rattle.blob_rows.specs.declared.blob_row.BlobRow.{BlobRow}
use Rattle.swarm_model.specs.declared.deadline.Deadline.{Deadline}
use Rattle.swarm_model.specs.Deadlines.{sooner, blob_end}
use Rattle.swarm_plain.proofs.deadlines.blobs_ends.Goals as goal

-- the earliest of one blob more
one_more : (best : Option Deadline) (rows : List BlobRow) (at : ℕ) →
    fold sooner best (map blob_end (take (suc at) rows)) ≡ fold sooner (fold sooner best (map blob_end (take at rows))) (option_to_list (option_map blob_end (slice_get rows at)))
one_more best [] zero = refl
one_more best [] (suc at) = refl
one_more best (row ∷ rows) zero = refl
one_more best (row ∷ rows) (suc at) = one_more (sooner best (blob_end row)) rows at

pub loop-at-preserved : goal.loop-at-preserved
loop-at-preserved c =
    let rows = c.args.blobs.now.rows in
    let at = c.loop-at.at in
    let next : at + 1 ≡ suc at = omega arith in
    c.sooner_of-soonest.ensures
    ∙ ap (λ (o : Option Deadline). fold sooner c.loop-at.soonest (option_to_list o)) c.blob_end_at.ensures
    ∙ ap (λ (o : Option Deadline). fold sooner o (option_to_list (option_map blob_end (slice_get rows at)))) c.loop-at.invariant
    ∙ sym (one_more c.args.best rows at)
    ∙ ap (λ (n : ℕ). fold sooner c.args.best (map blob_end (take n rows))) (sym next)

pub returns : goal.returns
returns c =
    let rows = c.args.blobs.now.rows in
    let all : c.loop-at.at ≡ length rows = omega (arith, c.count-at-end.ensures.count) in
    c.loop-at.invariant
    ∙ ap (λ (n : ℕ). fold sooner c.args.best (map blob_end (take n rows))) all
    ∙ ap (λ (l : List BlobRow). fold sooner c.args.best (map blob_end l)) (take-length rows)
