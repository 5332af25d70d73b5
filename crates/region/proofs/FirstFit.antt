-- The first hole with room begins at the least place.
use Rattle.std.proofs.Common.{◌≡◌, ℕ, ◌+◌, ◌<◌, ◌≤◌, false, not, List, length, Option, Some, None, sym, ap, ◌∙◌, arith, inl, inr}
use Rattle.std.specs.Option.{option_map}
use Rattle.std.proofs.lemmas.Bool.{cases_Bool, not-false, not-true}
use Rattle.blob_rows.specs.declared.extent.Extent.{Extent}
use Rattle.blob_rows.specs.Places.{is_free, least_place}
use Rattle.blob_rows.specs.Extents.{extent_at}
use Rattle.blob_rows.proofs.LeastPlaces.{IsLeastFrom, only_one, least_place-least}
use Rattle.region.specs.FreeUnits.{is_within, IsFreeBeside, least_extent}
use Rattle.region.specs.HoleSizes.{size_at, is_in_hole, region_of, AreHoles, IsFirstWith}
use Rattle.region.proofs.Runs.{each_from, run_blocked, run_free}
use Rattle.region.proofs.HoleUnits.{InHole, in_hole, hole_of, none_behind, free_unit}

module _ (sizes : List ℕ) (all : ℕ) (extents : List Extent) (n : ℕ) (wide : 1 ≤ n) (count : length sizes ≡ all) (holes : AreHoles sizes)
    (beside : IsFreeBeside (region_of sizes all) extents) where
  free : (u : ℕ) → u < all → is_in_hole sizes u ≡ not (is_within extents u)
  free u low = sym (free_unit sizes all u low) ∙ beside.free u low

  -- a unit in no hole is in use, and so is no run with it free
  blocked : (u q : ℕ) → u < all → is_in_hole sizes u ≡ false → q ≤ u → u < q + n → is_free extents n q ≡ false
  blocked u q low none from to = run_blocked extents u q n (not-false (is_within extents u) (sym (free u low) ∙ none)) from to

  -- no place in a hole without room is free
  small : (q : ℕ) → q + n ≤ all → ((s : ℕ) → s ≤ q → size_at sizes s < n) → is_free extents n q ≡ false
  small q fits short =
      elim (cases_Bool (is_in_hole sizes q)) [
        | inl is ↦ in_small (hole_of sizes q is)
        | inr none ↦ blocked q q (omega (arith, fits, wide)) none (omega arith) (omega (arith, wide))
      ]
    where
      in_small : InHole sizes q → is_free extents n q ≡ false
      in_small hole =
          let less = short hole.0 hole.1 in
          blocked (hole.0 + size_at sizes hole.0) q (omega (arith, fits, less, hole.1)) (none_behind sizes holes hole.0 (omega (arith, hole.1, hole.2)))
          (omega (arith, hole.2)) (omega (arith, less, hole.1))

  first_fits : (s : ℕ) → IsFirstWith sizes n s → IsLeastFrom extents n all 0 (Some s)
  first_fits s is =
      let room = is.room in
      let own = holes s (omega (arith, room, wide)) in (
        omega arith,
        omega (arith, own.0, room, count),
        run_free extents s n wide (each_from extents beside.some) (λ u low high.
            not-true (is_within extents u) (sym (free u (omega (arith, high, own.0, room, count))) ∙ in_hole sizes u (s, low, omega (arith, high, room)))),
        λ q from below. small q (omega (arith, below, own.0, room, count)) (λ r begun. is.first r (omega (arith, begun, below))),
      )

  pub no_place : ((s : ℕ) → size_at sizes s < n) → None ≡ least_extent extents all n
  no_place short =
      ap (λ (o : Option ℕ). option_map (extent_at n) o)
      (only_one extents n all 0 None (least_place extents all n) (λ q from fits. small q fits (λ s begun. short s)) (least_place-least extents all n))

  pub first_place : (s : ℕ) → IsFirstWith sizes n s → Some (extent_at n s) ≡ least_extent extents all n
  first_place s is =
      ap (λ (o : Option ℕ). option_map (extent_at n) o) (only_one extents n all 0 (Some s) (least_place extents all n) (first_fits s is) (least_place-least extents all n))
