-- What the sizes of holes keep, and what holds of it.
use Rattle.std.specs.Prelude.{◌≡◌, ◌≢◌, ℕ, ◌+◌, ◌/◌, ◌≤◌, ◌<◌, ◌^◌, List, length, vec_len}
use Rattle.region.specs.declared.hole_sizes.HoleSizes.TheInside.{Inside}
use Rattle.region.specs.HoleSizes.{size_at}

abbrev pub sizes_of : Inside → List ℕ
sizes_of holes = holes.sizes.items

-- the greatest size of a band of 2048 units
pub record IsGreatestOf (band : ℕ) (sizes : List ℕ) (size : ℕ) : Type 0 where
  pub bound : (unit : ℕ) → unit / 2048 ≡ band → size_at sizes unit ≤ size
  pub reached : (unit : ℕ) × (unit / 2048 ≡ band) × (size_at sizes unit ≡ size)

-- the greatest size of each band of 2048 units, the last of which may have fewer or none, but for one band
pub record AreGreatestBeside (one : ℕ) (sizes greatest : List ℕ) : Type 0 where
  pub bands : length greatest ≡ length sizes / 2048 + 1
  pub each : (band : ℕ) → band < length greatest → band ≢ one → IsGreatestOf band sizes (size_at greatest band)

-- the greatest size of each band of 2048 units
pub record AreGreatest (sizes greatest : List ℕ) : Type 0 where
  pub bands : length greatest ≡ length sizes / 2048 + 1
  pub each : (band : ℕ) → band < length greatest → IsGreatestOf band sizes (size_at greatest band)

-- the greatest size of each band stands beside the sizes, of which there are so few that a u32 counts them
pub record IsIndexed (holes : Inside) : Type 0 where
  pub greatest : AreGreatest holes.sizes.items holes.greatest.items
  pub few : vec_len holes.sizes < 2 ^ 32
