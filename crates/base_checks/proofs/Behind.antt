-- Keys behind references, and rows of which they are told.
use Rattle.std.proofs.Common.{◌≡◌, ◌↔◌, Bool, true, false, not, MatchBool, List, [], ◌∷◌, map, AllPairs, sym, subst, arith}
use Rattle.std.specs.declared.cmp.Ordering.{Ordering}
use Rattle.std.proofs.lemmas.List.Kept.{AllPairs-cons}
use Rattle.pool_laws.proofs.Lists.{each, all, each_map, among_map}
use Rattle.base_checks.specs.Keys.{Differ, AreDistinct}
use Rattle.base_checks.proofs.RowKeys.{pairs_head, pairs_tail}

module _ {X K : Type 0} (R : K → K → Type 0) (f : X → K) where
  abbrev On : X → X → Type 0
  On x y = R (f x) (f y)

  -- what holds of each two, through a function
  pairs_map : (xs : List X) → AllPairs On xs → AllPairs R (map f xs)
  pairs_map [] pairs = λ i j d less low. absurd (omega (arith, less, low))
  pairs_map (x ∷ xs) pairs =
      AllPairs-cons R (f x) (map f xs)
      (all (R (f x)) (map f xs) (each_map (R (f x)) f xs (λ y a. each (On x) xs (pairs_head On x xs pairs) y a)))
      (pairs_map xs (pairs_tail On x xs pairs))

  -- and back
  pairs_unmap : (xs : List X) → AllPairs R (map f xs) → AllPairs On xs
  pairs_unmap [] pairs = λ i j d less low. absurd (omega (arith, less, low))
  pairs_unmap (x ∷ xs) pairs =
      AllPairs-cons On x xs
      (all (On x) xs (λ y a. each (R (f x)) (map f xs) (pairs_head R (f x) (map f xs) pairs) (f y) (among_map f xs y a)))
      (pairs_unmap xs (pairs_tail R (f x) (map f xs) pairs))

module _ {X K : Type 0} (cmp : K → K → Ordering) (f : X → K) (Own : Type 0) where
  -- what is told of the keys behind references is told of the rows
  pub told_of_rows : (keys : List X) (plain : List K) → map f keys ≡ plain → (AreDistinct cmp plain ↔ Own) → (twice : Bool) →
      MatchBool twice (AreDistinct (λ x y. cmp (f x) (f y)) keys → ⊥) (AreDistinct (λ x y. cmp (f x) (f y)) keys) → MatchBool (not twice) Own (Own → ⊥)
  told_of_rows keys plain is exact true h = λ own. h (pairs_unmap (Differ cmp) f keys (subst (AreDistinct cmp) (sym is) (exact.1 own)))
  told_of_rows keys plain is exact false h = exact.0 (subst (AreDistinct cmp) is (pairs_map (Differ cmp) f keys h))
