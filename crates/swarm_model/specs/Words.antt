-- Words that the rules are written in.
use Rattle.std.specs.Prelude.{ℕ, Bool, ◌-◌, ◌^◌, min, ◌&&◌, nat_le, Option, Some, None}

-- the first value, where there is one, or else the second
infixr 3 ◌otherwise◌
abbrev pub ◌otherwise◌ : {A : Type 0} → Option A → A → A
(Some x) otherwise y = x
None otherwise y = y

-- a number in a range, ends included
abbrev pub is_between : ℕ → ℕ → ℕ → Bool
is_between low high n = nat_le low n && nat_le n high

-- a number as far as 64 bits tell it
abbrev pub capped : ℕ → ℕ
capped n = min n (2 ^ 64 - 1)
