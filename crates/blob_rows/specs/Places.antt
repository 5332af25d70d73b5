-- The least place at which so many units of a region are free.
use Rattle.std.specs.Prelude.{ℕ, zero, suc, Bool, true, false, ◌+◌, ◌-◌, ◌&&◌, not, nat_lt, List, Option, Some, None, if◌then◌else◌}
use Rattle.std.specs.List.{list_any}
use Rattle.blob_rows.specs.declared.extent.Extent.{Extent}

-- the extent shares a unit with the n units from a place on
abbrev pub overlaps : ℕ → ℕ → Extent → Bool
overlaps place n extent = nat_lt extent.at (place + n) && nat_lt place (extent.at + extent.units)

abbrev pub is_free : List Extent → ℕ → ℕ → Bool
is_free extents n place = not (list_any (overlaps place n) extents)

-- the first free place of so many, counted from a place on
abbrev pub first_free : List Extent → ℕ → ℕ → ℕ → Option ℕ
first_free extents n zero place = None
first_free extents n (suc tries) place =
    elim (is_free extents n place) [ true ↦ Some place | false ↦ first_free extents n tries (place + 1) ]

-- the least place at which n units of the region are free
abbrev pub least_place : List Extent → ℕ → ℕ → Option ℕ
least_place extents units n = if nat_lt units n then None else first_free extents n (units + 1 - n) 0
