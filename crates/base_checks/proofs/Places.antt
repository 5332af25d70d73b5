-- Rows that have the numbers of their places, one by one.
use Rattle.std.proofs.Common.{◌≡◌, ℕ, suc, ◌+◌, ◌<◌, List, [], ◌∷◌, length, get_or, arith}
use Rattle.swarm_model.specs.Numbers.{AreNumbered}
use Rattle.base_checks.specs.Bases.{AreNumberedTo}

module _ {R : Type 0} (number_of : R → ℕ) where
  abbrev HasPlaces : ℕ → List R → Type 0
  HasPlaces n rows = (k : ℕ) (d : R) → k < length rows → number_of (get_or rows k d) ≡ k + n

  numbered_from : (n : ℕ) (rows : List R) → HasPlaces n rows → AreNumbered number_of n rows
  numbered_from n [] places = tt
  numbered_from n (row ∷ rows) places =
      let first : number_of row ≡ 0 + n = places 0 row (omega arith) in
      (omega (arith, first), numbered_from (n + 1) rows (λ k d low. let next = places (suc k) d (omega (arith, low)) in omega (arith, next)))

  -- rows whose numbers are one above their places are numbered from 1
  pub numbered_by_places : (rows : List R) (end : ℕ) → length rows ≡ end → AreNumberedTo number_of rows end → AreNumbered number_of 1 rows
  numbered_by_places rows end is places = numbered_from 1 rows (λ k d low. places k d (omega (arith, low, is)))
