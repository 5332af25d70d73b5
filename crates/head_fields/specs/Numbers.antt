-- Numbers that a head tells in digits.
use Rattle.std.specs.Prelude.{ℕ, true, false, Bool, ◌&&◌, nat_le, List, [], ◌∷◌, length, if◌then◌else◌}
use Rattle.std.specs.List.{list_all}
use Rattle.std.specs.Char.{is_ascii_digit}
use Rattle.std.specs.Str.Parse.{digits_value}
use Rattle.head_fields.specs.declared.number.Number.{Number}
use Rattle.head_fields.specs.declared.number.Number.TheVariants.{Absent, Told, Broken}

-- 1 to so many digits
abbrev pub is_number : ℕ → List ℕ → Bool
is_number most v = nat_le 1 (length v) && nat_le (length v) most && list_all is_ascii_digit v

-- what a value tells
abbrev pub number : ℕ → List ℕ → Number
number most v = if is_number most v then Told (digits_value 10 v) else Broken

-- what the values of a field tell that may stand there once
abbrev pub only_number : ℕ → List (List ℕ) → Number
only_number most [] = Absent
only_number most (v ∷ []) = number most v
only_number most (v ∷ w ∷ vs) = Broken

abbrev pub is_broken : Number → Bool
is_broken Broken = true
is_broken (Told n) = false
is_broken Absent = false

abbrev pub is_absent : Number → Bool
is_absent Absent = true
is_absent (Told n) = false
is_absent Broken = false

-- the number, or 0
abbrev pub value_or_zero : Number → ℕ
value_or_zero (Told n) = n
value_or_zero Absent = 0
value_or_zero Broken = 0
