-- What contracts see of a region.
use Rattle.std.specs.Prelude.{ℕ, Bool, false, List, slice_index_or}

-- how many units there are, and for each of them whether it is free
pub record RegionState : Type 0 where
  pub units : ℕ
  pub free : List Bool

abbrev pub is_free_unit : RegionState → ℕ → Bool
is_free_unit region unit = slice_index_or region.free unit false
