-- Rows that have the numbers 1, 2 and so on.
use Rattle.std.proofs.Common.{◌≡◌, ℕ, ◌+◌, ◌<◌, List, [], ◌∷◌, length, get_or, arith, zero, suc}
use Rattle.swarm_model.specs.Numbers.{AreNumbered}

-- the number of the row at a place
pub number_at : {R : Type 0} (number_of : R → ℕ) (n place : ℕ) (rows : List R) (d : R) → AreNumbered number_of n rows → place < length rows → number_of (get_or rows place d) ≡ n + place
number_at number_of n place [] d counts low = absurd (omega arith)
number_at number_of n zero (row ∷ rows) d counts low = omega (arith, counts.0)
number_at number_of n (suc place) (row ∷ rows) d counts low = omega (arith, number_at number_of (n + 1) place rows d counts.1 (omega arith))
