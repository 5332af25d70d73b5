-- Small lists of numbers.
use Rattle.std.specs.Prelude.{ℕ, Bool, nat_lt, List, [], ◌∷◌}

abbrev pub odd : List ℕ
odd = 1 ∷ 3 ∷ 5 ∷ []

abbrev pub is_below_4 : ℕ → Bool
is_below_4 x = nat_lt x 4

-- what lies at the places 0, 1 and 2
abbrev pub stored : List ℕ
stored = 10 ∷ 20 ∷ 30 ∷ []
