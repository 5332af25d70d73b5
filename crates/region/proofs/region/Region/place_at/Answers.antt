-- The free unit at which the extent begins is in a hole, whose end lies behind the extent.
use Rattle.std.proofs.Common.{◌≡◌, ℕ, ◌+◌, ◌<◌, ◌≤◌, Bool, true, not, ◌&&◌, List, refl, subst, sym, ap, ◌∙◌, arith, inl, inr}
use Rattle.std.proofs.lemmas.Bool.{cases_lt, cases_eq, both_ways}
use Rattle.blob_rows.specs.declared.extent.Extent.{Extent}
use Rattle.blob_rows.specs.Places.{overlaps}
use Rattle.region.specs.Plain.{RegionState, is_free_unit}
use Rattle.region.specs.HoleSizes.{size_at, is_in_hole, region_of, AreHoles, IsLastBefore}
use Rattle.region.specs.FreeUnits.{IsFreeBeside}
use Rattle.region.proofs.Runs.{has_unit}
use Rattle.region.proofs.HoleUnits.{InHole, hole_of, free_unit, none_behind}
use Rattle.region.proofs.InUse.{placed}
use Rattle.region.proofs.region.Region.place_at.Goals as goal

module _ (sizes : List ℕ) (units : ℕ) (e : Extent) (holes : AreHoles sizes) (some : 1 ≤ e.units) (inside : e.at + e.units ≤ units) (free : (u : ℕ) → overlaps u 1 e ≡ true → is_free_unit (region_of sizes units) u ≡ true) where
  -- each unit of the extent is in a hole
  its_hole : (u : ℕ) → e.at ≤ u → u < e.at + e.units → InHole sizes u
  its_hole u low high = hole_of sizes u (sym (free_unit sizes units u (omega (arith, high, inside))) ∙ free u (has_unit e u low high))

  first_hole : InHole sizes e.at
  first_hole = its_hole e.at (omega arith) (omega (arith, some))

  -- so a hole starts there or before
  some_hole : ((u : ℕ) → u < e.at + 1 → size_at sizes u ≡ 0) → ⊥
  some_hole none = let zero = none first_hole.0 (omega (arith, first_hole.1)) in omega (arith, zero, first_hole.1, first_hole.2)

  -- the last one that does is it
  module _ (start : ℕ) (last : IsLastBefore sizes (e.at + 1) start) where
    is_start : start ≡ first_hole.0
    is_start =
        let s : ℕ = first_hole.0 in
        let starts : 1 ≤ size_at sizes s = omega (arith, first_hole.1, first_hole.2) in
        elim (cases_lt start s) [
          | inl before ↦ let none = last.last s before (omega (arith, first_hole.1)) in absurd (omega (arith, none, starts))
          | inr from ↦ elim (cases_eq start s) [
            | inl same ↦ same
            | inr other ↦
                let own = last.starts in
                let low = last.before in
                let none = (holes s starts).1 start (omega (arith, from, other)) (omega (arith, low, first_hole.2)) in absurd (omega (arith, none, own))
          ]
        ]

    -- and it ends behind the extent
    room : e.at + e.units ≤ start + size_at sizes start
    room =
        elim (cases_lt (start + size_at sizes start) (e.at + e.units)) [
          | inr far ↦ far
          | inl short ↦
              let past : e.at < start + size_at sizes start = subst (λ (k : ℕ). e.at < k + size_at sizes k) (sym is_start) first_hole.2 in
              let behind : ℕ = start + size_at sizes start in
              absurd (both_ways (is_in_hole sizes behind) (none_behind sizes holes start last.starts)
              (sym (free_unit sizes units behind (omega (arith, short, inside))) ∙ free behind (has_unit e behind (omega (arith, past)) short)))
        ]

pub unreachable-requires : goal.unreachable-requires
unreachable-requires c =
    let i = c.self.inside in
    let free : (u : ℕ) → overlaps u 1 c.args.extent ≡ true → is_free_unit (region_of i.sizes i.units) u ≡ true = λ u own. ap (λ (r : RegionState). is_free_unit r u) c.self.view_is ∙ c.requires.free u own in
    some_hole i.sizes i.units c.args.extent c.self.invariant.holes c.requires.some (subst (λ (r : RegionState). c.args.extent.at + c.args.extent.units ≤ r.units) (sym c.self.view_is) c.requires.inside) free
    (λ u low. c.in-None.ensures u low)

pub take_inside-requires-clause-room : goal.take_inside-requires-clause-room
take_inside-requires-clause-room c =
    let i = c.self.inside in
    let free : (u : ℕ) → overlaps u 1 c.args.extent ≡ true → is_free_unit (region_of i.sizes i.units) u ≡ true = λ u own. ap (λ (r : RegionState). is_free_unit r u) c.self.view_is ∙ c.requires.free u own in
    room i.sizes i.units c.args.extent c.self.invariant.holes c.requires.some (subst (λ (r : RegionState). c.args.extent.at + c.args.extent.units ≤ r.units) (sym c.self.view_is) c.requires.inside) free
    c.in-Some.start c.in-Some.ensures

pub returns-clause-adds : goal.returns-clause-adds
returns-clause-adds c = λ extents index held.
    let i = c.self.inside in
    let e : Extent = c.args.extent in
    let old : RegionState = region_of i.sizes i.units in
    let new : RegionState = region_of c.take_inside.new.sizes i.units in
    let beside : IsFreeBeside old extents = subst (λ (r : RegionState). IsFreeBeside r extents) (sym c.self.view_is) held in
    placed old new extents index e beside c.requires.some refl (λ u low.
    free_unit c.take_inside.new.sizes i.units u low ∙ c.take_inside.ensures.taken u ∙ ap (λ (t : Bool). t && not (overlaps u 1 e)) (sym (free_unit i.sizes i.units u low)))
