-- Lists in a strict order, and lists with one item more or less.
use Rattle.std.specs.Prelude.{◌≡◌, ◌≢◌, ◌↔◌, ◌⊎◌, ℕ, ◌<◌, Bool, true, List, length, slice_index_or}
use Rattle.std.specs.List.{Contains}

-- each item goes before all that stand behind it
abbrev pub IsRising : {X : Type 0} → (X → X → Bool) → List X → Type 0
IsRising {X} before xs = (i j : ℕ) (d : X) → i < j → j < length xs → before (slice_index_or xs i d) (slice_index_or xs j d) ≡ true

-- the items with one more
pub record Adds {X : Type 0} (one : X) (old new : List X) : Type 0 where
  pub each : (x : X) → Contains new x ↔ ((x ≡ one) ⊎ Contains old x)

-- the items without one
pub record Removes {X : Type 0} (one : X) (old new : List X) : Type 0 where
  pub each : (x : X) → Contains new x ↔ (Contains old x × (x ≢ one))
