-- What a clock hands in.
use Rattle.std.specs.Prelude.{◌≡◌, ℕ, zero, suc, ◌+◌, ◌-◌, ◌^◌, min, List, [], ◌∷◌, Option, option_map, length, slice_get, unwrap_or}
use Rattle.std.specs.Io.KnownBytes.{Consumes}

-- between two states of a clock these moments were handed in: they were the first that it told, and what it told beyond them is still ahead
abbrev pub HandsIn : (ℕ → Option (List ℕ)) → (ℕ → Option (List ℕ)) → List ℕ → Type 0
HandsIn before after moments = (more : ℕ) → Consumes (before (length moments + more)) (after more) moments

-- where a clock tells how many seconds were waited at it, these are so many more; it tells at most 2^64 - 1
abbrev pub Waits : Option ℕ → Option ℕ → ℕ → Type 0
Waits before after secs = after ≡ option_map (λ n. min (n + secs) (2 ^ 64 - 1)) before

-- the next k moments of a clock that adds a step, and stays at the last moment of a `u64`
abbrev pub steps_from : ℕ → ℕ → ℕ → List ℕ
steps_from at step zero = []
steps_from at step (suc k) = at ∷ steps_from (min (at + step) (2 ^ 64 - 1)) step k

-- the next k moments of a clock that was asked so often and answers those of a list, and 0 past the last
abbrev pub listed_from : List ℕ → ℕ → ℕ → List ℕ
listed_from moments asked zero = []
listed_from moments asked (suc k) = unwrap_or (slice_get moments asked) 0 ∷ listed_from moments (min (asked + 1) (2 ^ 64 - 1)) k
