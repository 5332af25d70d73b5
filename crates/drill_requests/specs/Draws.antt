-- The numbers that are drawn.
use Rattle.std.specs.Prelude.{ℕ, ◌+◌, ◌*◌, ◌/◌, ◌%◌, ◌^◌, zero, suc}

-- the value of the generator after a value
abbrev pub next_value : ℕ → ℕ
next_value x = (x * 1103515245 + 12345) % 2 ^ 31

-- the value of the generator after so many draws from a start
unfoldable pub value_after : ℕ → ℕ → ℕ
value_after start zero = start
value_after start (suc n) = next_value (value_after start n)

-- the number that is drawn as the n-th from a start, n from 1
abbrev pub draw : ℕ → ℕ → ℕ
draw start n = value_after start n / 65536
