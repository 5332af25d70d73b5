-- The entries of a log from a place on.
use Rattle.std.proofs.Common.{◌≡◌, ℕ, suc, ◌+◌, ◌-◌, nat_le, true, List, [], ◌∷◌, ◌++◌, take, drop, refl, arith, ap, sym, ◌∙◌, Some}
use Rattle.std.specs.Prelude.{slice_get}
use Rattle.std.proofs.Math.Seq.{take-suc}
use Rattle.std.proofs.lemmas.Bool.{le-leb}
use Rattle.std.proofs.lemmas.List.{get_or-drop, length-drop}
use Rattle.std.proofs.lemmas.Option.{get_or_from_slice_get, slice_get_within}
use Rattle.swarm_model.specs.declared.entry.Entry.{Entry}
use Rattle.swarm_model.specs.Bases.{Base, entry_from}

-- the places of a log to which nothing led
pub entry_at : (start : Base) (log : List Entry) (at : ℕ) → start.count ≡ 0 → entry_from start log at ≡ slice_get log at
entry_at start log at none =
    let low : nat_le start.count at ≡ true = le-leb start.count at (omega (arith, none)) in
    let same : at - start.count ≡ at = omega (arith, none) in
    rw (low, same) refl

module _ {A : Type 0} (log : List A) (from : ℕ) where
  one_more : (place : ℕ) (x : A) → slice_get log (from + place) ≡ Some x → take (place + 1) (drop from log) ≡ take place (drop from log) ++ x ∷ []
  one_more place x is =
      let low = slice_get_within log (from + place) x is in
      let counted = length-drop from log in
      let next : place + 1 ≡ suc place = omega arith in
      ap (λ n. take n (drop from log)) next
      ∙ take-suc (drop from log) place x (omega (arith, low, counted))
      ∙ ap (λ y. take place (drop from log) ++ y ∷ []) (get_or-drop from log place x ∙ get_or_from_slice_get log (from + place) x x is)

  pub copied_more : (place : ℕ) (x copy : A) (done more : List A) → slice_get log (from + place) ≡ Some x → copy ≡ x → done ≡ take place (drop from log) → more ≡ done ++ copy ∷ []
      → more ≡ take (place + 1) (drop from log)
  copied_more place x copy done more there is so_far pushed =
      pushed ∙ (ap (λ y. done ++ y ∷ []) is ∙ (ap (λ (l : List A). l ++ x ∷ []) so_far ∙ sym (one_more place x there)))
