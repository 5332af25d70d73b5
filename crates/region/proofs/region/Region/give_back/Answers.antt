-- The units of the extent are in no hole, and then in one that touches no other.
use Rattle.std.proofs.Common.{◌||◌, ℕ, Bool, List, refl, subst, sym, ap, ◌∙◌, arith}
use Rattle.std.specs.List.{Contains}
use Rattle.blob_rows.specs.declared.extent.Extent.{Extent}
use Rattle.blob_rows.specs.Places.{overlaps}
use Rattle.region.specs.Plain.{RegionState}
use Rattle.region.specs.HoleSizes.{region_of, IsOutside}
use Rattle.region.specs.FreeUnits.{AreInUse}
use Rattle.region.proofs.Runs.{unit_inside}
use Rattle.region.proofs.HoleUnits.{free_unit}
use Rattle.region.proofs.Joining.{units_joined, holes_joined}
use Rattle.region.proofs.InUse.{in_use, not_free, freed}
use Rattle.region.proofs.region.Region.give_back.Goals as goal

-- no unit of an extent in use is in a hole
outside_holes : (sizes : List ℕ) (units : ℕ) (extents : List Extent) (e : Extent) → Contains extents e → AreInUse (region_of sizes units) extents → IsOutside sizes e
outside_holes sizes units extents e has used u own =
    let at = unit_inside e u own in
    let inside = (in_use (region_of sizes units) extents e has used).1 in
    sym (free_unit sizes units u (omega (arith, at.1, inside))) ∙ not_free (region_of sizes units) extents e has used u own

pub give_back-requires-clause-some : goal.give_back-requires-clause-some
give_back-requires-clause-some c = (in_use c.args.self.now c.requires.0 c.args.extent c.requires.1 c.requires.2).0

pub give_back-requires-clause-inside : goal.give_back-requires-clause-inside
give_back-requires-clause-inside c =
    let used = in_use c.args.self.now c.requires.0 c.args.extent c.requires.1 c.requires.2 in
    omega (arith, used.1, c.self.invariant.count, ap (λ (r : RegionState). r.units) c.self.view_is)

pub give_back-requires-clause-outside : goal.give_back-requires-clause-outside
give_back-requires-clause-outside c =
    let i = c.self.inside in
    outside_holes i.sizes i.units c.requires.0 c.args.extent c.requires.1 (subst (λ (r : RegionState). AreInUse r c.requires.0) (sym c.self.view_is) c.requires.2)

pub invariant_of-self : goal.invariant_of-self
invariant_of-self c =
    let i = c.self.inside in
    let e = c.args.extent in
    let extents = c.requires.0 in
    let used : AreInUse (region_of i.sizes i.units) extents = subst (λ (r : RegionState). AreInUse r extents) (sym c.self.view_is) c.requires.2 in
    let lies = in_use (region_of i.sizes i.units) extents e c.requires.1 used in
    let start = c.give_back.ensures.joined in
    record {
      count = c.give_back.ensures.count ∙ c.self.invariant.count;
      holes = holes_joined i.sizes c.give_back.new.sizes e start.0 c.self.invariant.holes lies.0 (omega (arith, lies.1, c.self.invariant.count))
          (outside_holes i.sizes i.units extents e c.requires.1 used) start.1 start.2 c.give_back.ensures.count;
    }

pub returns-clause-frees : goal.returns-clause-frees
returns-clause-frees c = λ extents has held.
    let i = c.self.inside in
    let e = c.args.extent in
    let old : RegionState = region_of i.sizes i.units in
    let new : RegionState = region_of c.give_back.new.sizes i.units in
    let used : AreInUse old extents = subst (λ (r : RegionState). AreInUse r extents) (sym c.self.view_is) held in
    let lies = in_use old extents e has used in
    let start = c.give_back.ensures.joined in
    let frees = units_joined i.sizes c.give_back.new.sizes e start.0 c.self.invariant.holes lies.0 (omega (arith, lies.1, c.self.invariant.count)) (outside_holes i.sizes i.units extents e has used) start.1 start.2 in
    freed old new extents e has used refl (λ u low.
    free_unit c.give_back.new.sizes i.units u low ∙ frees u ∙ ap (λ (t : Bool). t || overlaps u 1 e) (sym (free_unit i.sizes i.units u low)))
