-- What a region keeps, and what holds of it.
use Rattle.std.specs.Prelude.{◌≡◌, length}
use Rattle.region.specs.declared.region.Region.TheInside.{Inside}
use Rattle.region.specs.HoleSizes.{region_of, AreHoles}
use Rattle.region.specs.Plain.{RegionState}

abbrev pub state_of : Inside → RegionState
state_of region = region_of region.sizes region.units

-- there is a size for each unit, and the holes are apart
pub record IsKept (region : Inside) : Type 0 where
  pub count : length region.sizes ≡ region.units
  pub holes : AreHoles region.sizes
