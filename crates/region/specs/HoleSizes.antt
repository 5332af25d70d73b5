-- For each unit the size of the hole that starts there, or 0.
use Rattle.std.specs.Prelude.{◌≡◌, ◌≢◌, ℕ, zero, suc, Bool, true, false, ◌+◌, ◌-◌, ◌≤◌, ◌<◌, ◌||◌, nat_lt, List, length, map, slice_index_or, ◌⊎◌}
use Rattle.std.specs.List.{range_with_len}
use Rattle.blob_rows.specs.declared.extent.Extent.{Extent}
use Rattle.blob_rows.specs.Places.{overlaps}
use Rattle.region.specs.Plain.{RegionState}

abbrev pub size_at : List ℕ → ℕ → ℕ
size_at sizes unit = slice_index_or sizes unit 0

-- one of the holes that start at the first so many units reaches past a unit
abbrev pub is_reached : List ℕ → ℕ → ℕ → Bool
is_reached sizes unit zero = false
is_reached sizes unit (suc start) = nat_lt unit (start + size_at sizes start) || is_reached sizes unit start

-- the unit is in a hole: one that starts there or before reaches past it
abbrev pub is_in_hole : List ℕ → ℕ → Bool
is_in_hole sizes unit = is_reached sizes unit (suc unit)

-- a region of so many units, of which those in holes are free
abbrev pub region_of : List ℕ → ℕ → RegionState
region_of sizes units = record { units = units; free = map (is_in_hole sizes) (range_with_len 0 units) }

-- each hole lies inside, and no other starts in it or right behind it: no two share a unit or touch
abbrev pub AreHoles : List ℕ → Type 0
AreHoles sizes =
    (start : ℕ) → 1 ≤ size_at sizes start →
    (start + size_at sizes start ≤ length sizes) × ((unit : ℕ) → start < unit → unit ≤ start + size_at sizes start → size_at sizes unit ≡ 0)

-- the first unit at which a hole of so many units starts
pub record IsFirstWith (sizes : List ℕ) (units : ℕ) (start : ℕ) : Type 0 where
  pub inside : start < length sizes
  pub room : units ≤ size_at sizes start
  pub first : (unit : ℕ) → unit < start → size_at sizes unit < units

-- the last unit before a place at which a hole starts
pub record IsLastBefore (sizes : List ℕ) (place : ℕ) (start : ℕ) : Type 0 where
  pub before : start < place
  pub starts : 1 ≤ size_at sizes start
  pub last : (unit : ℕ) → start < unit → unit < place → size_at sizes unit ≡ 0

-- no unit of the extent is in a hole
abbrev pub IsOutside : List ℕ → Extent → Type 0
IsOutside sizes extent = (unit : ℕ) → overlaps unit 1 extent ≡ true → is_in_hole sizes unit ≡ false

-- the first units of a hole were taken: what is left of it starts behind them
pub record IsTaken (old new : List ℕ) (at units : ℕ) : Type 0 where
  pub taken : size_at new at ≡ 0
  pub left : size_at new (at + units) ≡ size_at old at - units
  pub others : (unit : ℕ) → unit ≢ at → unit ≢ at + units → size_at new unit ≡ size_at old unit

-- where a hole starts that is to reach from a place on: at a hole that ends there, or there where none ends there
abbrev pub BeginsJoined : List ℕ → ℕ → ℕ → Type 0
BeginsJoined sizes place start =
    ((1 ≤ size_at sizes start) × (start + size_at sizes start ≡ place))
    ⊎ ((start ≡ place) × ((unit : ℕ) → 1 ≤ size_at sizes unit → unit + size_at sizes unit ≢ place))

-- a hole from a start on has the units of an extent and those of the hole behind it
pub record IsJoined (old new : List ℕ) (extent : Extent) (start : ℕ) : Type 0 where
  pub joined : start + size_at new start ≡ extent.at + extent.units + size_at old (extent.at + extent.units)
  pub behind : size_at new (extent.at + extent.units) ≡ 0
  pub others : (unit : ℕ) → unit ≢ start → unit ≢ extent.at + extent.units → size_at new unit ≡ size_at old unit
