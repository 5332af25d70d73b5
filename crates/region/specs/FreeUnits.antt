-- The free units of a region, beside the extents that are in use.
use Rattle.std.specs.Prelude.{◌≡◌, ℕ, Bool, ◌+◌, ◌≤◌, ◌<◌, not, List, Option, Some, None}
use Rattle.std.specs.List.{list_any, insert, All}
use Rattle.std.specs.Option.{option_map}
use Rattle.blob_rows.specs.declared.extent.Extent.{Extent}
use Rattle.blob_rows.specs.Places.{overlaps, least_place}
use Rattle.blob_rows.specs.Extents.{extent_at, AreApart}
use Rattle.region.specs.Plain.{RegionState, is_free_unit}

-- the unit is in one of the extents
abbrev pub is_within : List Extent → ℕ → Bool
is_within extents unit = list_any (overlaps unit 1) extents

-- the free units of the region are those that are in none of the extents
pub record IsFreeBeside (region : RegionState) (extents : List Extent) : Type 0 where
  pub some : All (λ extent. 1 ≤ extent.units) extents
  pub free : (unit : ℕ) → unit < region.units → is_free_unit region unit ≡ not (is_within extents unit)

-- the extents that are in use: inside the region, and no two share a unit
pub record AreInUse (region : RegionState) (extents : List Extent) : Type 0 where
  pub inside : All (λ extent. extent.at + extent.units ≤ region.units) extents
  pub apart : AreApart extents
  pub beside : IsFreeBeside region extents

-- the extent of so many units at the least place at which the extents leave them free
abbrev pub least_extent : List Extent → ℕ → ℕ → Option Extent
least_extent extents all units = option_map (extent_at units) (least_place extents all units)

-- the extents with one that was placed, at an index of the list, or with none
abbrev pub with_placed : Option Extent → ℕ → List Extent → List Extent
with_placed None index extents = extents
with_placed (Some extent) index extents = insert extents index extent
