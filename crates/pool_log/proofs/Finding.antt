-- The first of the items that pass a test.
use Rattle.std.proofs.Common.{◌≡◌, ℕ, suc, ◌<◌, List, [], ◌∷◌, ◌++◌, take, reverse, length, get_or, Bool, true, false, cond, Some, refl, sym, ap, ◌∙◌}
use Rattle.std.proofs.Math.Seq.{take-suc}
use Rattle.std.proofs.lemmas.List.{reverse-append}
use Rattle.std.specs.List.{filter, find, slice_get}
use Rattle.pool_queries.proofs.Listed.{filter-reverse}

module _ {X : Type 0} (p : X → Bool) where
  slice_get-filter : (xs : List X) → slice_get (filter p xs) 0 ≡ find p xs
  slice_get-filter [] = refl
  slice_get-filter (x ∷ xs) = by_test (slice_get-filter xs) (p x)
    where
      by_test : slice_get (filter p xs) 0 ≡ find p xs → (t : Bool) → slice_get (cond t (x ∷ filter p xs) (filter p xs)) 0 ≡ cond t (Some x) (find p xs)
      by_test rest true = refl
      by_test rest false = rest

  -- the last one that passes is found from the end
  pub find-reverse : (xs : List X) → find p (reverse xs) ≡ slice_get (reverse (filter p xs)) 0
  find-reverse xs = sym (slice_get-filter (reverse xs)) ∙ ap (λ (ys : List X). slice_get ys 0) (filter-reverse p xs)

  -- the last of some items is looked at first
  pub find_last : (xs : List X) (place : ℕ) (x : X) → place < length xs → x ≡ get_or xs place x → find p (reverse (take (suc place) xs)) ≡ cond (p x) (Some x) (find p (reverse (take place xs)))
  find_last xs place x low is =
      ap (λ (ys : List X). find p (reverse ys)) (take-suc xs place x low ∙ ap (λ (y : X). take place xs ++ y ∷ []) (sym is))
      ∙ ap (λ (ys : List X). find p ys) (reverse-append (take place xs) (x ∷ []))
