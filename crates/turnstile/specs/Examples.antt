-- A small log.
use Rattle.std.specs.Prelude.{ℕ, List, [], ◌∷◌}

-- an item with the number of the pass that made it
pub record Entry : Type 0 where
  pub number : ℕ
  pub item : ℕ

abbrev pub by : Entry → ℕ
by e = e.number

abbrev pub entry : ℕ → ℕ → Entry
entry n item = record { number = n; item = item }

abbrev pub two_of_zero : List Entry
two_of_zero = entry 0 5 ∷ entry 1 6 ∷ entry 0 7 ∷ []
