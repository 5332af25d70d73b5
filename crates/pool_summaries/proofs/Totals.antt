-- The sum of the first numbers of a list.
use Rattle.std.proofs.Common.{ℕ, ◌≤◌, List, take}
use Rattle.std.specs.Prelude.{sum_by}
use Rattle.std.proofs.lemmas.List.Sums.{sum_by-take-le}

pub sum_of_first : (xs : List ℕ) (n : ℕ) → sum_by (λ count. count) (take n xs) ≤ sum_by (λ count. count) xs
sum_of_first xs n = sum_by-take-le (λ count. count) xs n
