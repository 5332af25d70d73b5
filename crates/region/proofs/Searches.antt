-- Searches that pass over bands.
use Rattle.std.proofs.Common.{◌≡◌, ℕ, ◌*◌, ◌/◌, ◌<◌, ◌≤◌, List, length, min, refl, arith, inl, inr}
use Rattle.std.proofs.Math.ListN.{get_or-eq_default}
use Rattle.std.proofs.lemmas.Bool.{cases_lt}
use Rattle.region.specs.HoleSizes.{size_at}
use Rattle.region.specs.SizesInside.{AreGreatest}

module _ (sizes greatest : List ℕ) (are : AreGreatest sizes greatest) where
  small_band : (least u : ℕ) → u < length sizes → size_at greatest (u / 2048) < least → size_at sizes u < least
  small_band least u low small =
      let bands = are.bands in
      let bound = (are.each (u / 2048) (omega (arith, bands, low))).bound u refl in omega (arith, bound, small)

  -- no hole before the place has so many units
  module _ (units band start at : ℕ) (some : 1 ≤ units) (passed : (k : ℕ) → 0 ≤ k → k < band → size_at greatest k < units) (begins : start ≡ min (length sizes) (band * 2048))
      (rest : (k : ℕ) → start ≤ k → k < at → size_at sizes k < units) where
    pub none_with : (u : ℕ) → u < at → size_at sizes u < units
    none_with u low =
        elim (cases_lt u start) [
          | inl early ↦ small_band units u (omega (arith, early, begins)) (passed (u / 2048) (omega arith) (omega (arith, early, begins)))
          | inr later ↦ rest u later low
        ]

    pub none_at_all : length sizes ≤ at → (u : ℕ) → size_at sizes u < units
    none_at_all all u =
        elim (cases_lt u at) [
          | inl low ↦ none_with u low
          | inr far ↦ let none : size_at sizes u ≡ 0 = get_or-eq_default sizes 0 {n = u} (omega (arith, all, far)) in omega (arith, none, some)
        ]

  -- no hole starts from the end on before the place
  pub none_between : (place bands end : ℕ) → place ≤ length sizes → ((k : ℕ) → place / 2048 * 2048 ≤ k → k < place → size_at sizes k ≡ 0) →
      ((k : ℕ) → bands ≤ k → k < place / 2048 → size_at greatest k ≡ 0) → ((k : ℕ) → end ≤ k → k < bands * 2048 → size_at sizes k ≡ 0) →
      (u : ℕ) → end ≤ u → u < place → size_at sizes u ≡ 0
  none_between place bands end inside own passed rest u from low =
      elim (cases_lt u (bands * 2048)) [
        | inl early ↦ rest u from early
        | inr later ↦ elim (cases_lt u (place / 2048 * 2048)) [
          | inr near ↦ own u near low
          | inl far ↦
              let none = passed (u / 2048) (omega (arith, later)) (omega (arith, far)) in
              let small = small_band 1 u (omega (arith, low, inside)) (omega (arith, none)) in omega (arith, small)
        ]
      ]
