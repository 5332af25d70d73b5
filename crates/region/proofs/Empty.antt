-- A region whose units are all free.
use Rattle.std.proofs.Common.{◌≡◌, ℕ, ◌<◌, ◌≤◌, List, [], length, set, ◌∙◌, arith}
use Rattle.std.proofs.lemmas.List.{get_or-set_same}
use Rattle.region.specs.FreeUnits.{IsFreeBeside}
use Rattle.region.specs.HoleSizes.{size_at, region_of}
use Rattle.region.proofs.HoleUnits.{in_hole, free_unit}

-- there is no unit
pub none_free : (sizes : List ℕ) (units : ℕ) → units ≤ 0 → IsFreeBeside (region_of sizes units) []
none_free sizes units none = record { some = λ k d low. absurd (omega arith); free = λ u low. absurd (omega (arith, low, none)) }

module _ (sizes : List ℕ) (units : ℕ) (some : 0 < units) (count : length sizes ≡ units) (none : (u : ℕ) → size_at sizes u ≡ 0) where
  first : size_at (set sizes 0 units) 0 ≡ units
  first = get_or-set_same sizes 0 units 0 (omega (arith, some, count))

  pub all_free : IsFreeBeside (region_of (set sizes 0 units) units) []
  all_free =
      record {
        some = λ k d low. absurd (omega arith);
        free = λ u low. free_unit (set sizes 0 units) units u low ∙ in_hole (set sizes 0 units) u (0, omega arith, omega (arith, first, low));
      }
