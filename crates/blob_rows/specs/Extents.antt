-- Extents, and lists of them without an overlap.
use Rattle.std.specs.Prelude.{◌≡◌, ℕ, Bool, false, ◌==◌, ◌&&◌, not, List}
use Rattle.std.specs.List.{filter, AllPairs}
use Rattle.blob_rows.specs.declared.extent.Extent.{Extent}
use Rattle.blob_rows.specs.Places.{overlaps}

abbrev pub extent_at : ℕ → ℕ → Extent
extent_at units at = record { at = at; units = units }

abbrev pub is_same_extent : Extent → Extent → Bool
is_same_extent a b = a.at == b.at && a.units == b.units

abbrev pub without_extent : Extent → List Extent → List Extent
without_extent extent live = filter (λ other. not (is_same_extent extent other)) live

-- no two extents share a unit, in whatever order they stand
abbrev pub AreApart : List Extent → Type 0
AreApart extents = AllPairs (λ a b. overlaps a.at a.units b ≡ false) extents
