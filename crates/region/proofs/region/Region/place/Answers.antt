-- The first hole with room begins at the least place.
use Rattle.std.proofs.Common.{◌≡◌, ◌&&◌, Bool, not, Some, None, refl, subst, sym, ap, ◌∙◌}
use Rattle.blob_rows.specs.declared.extent.Extent.{Extent}
use Rattle.blob_rows.specs.Places.{overlaps}
use Rattle.region.specs.Plain.{RegionState}
use Rattle.region.specs.HoleSizes.{region_of}
use Rattle.region.specs.FreeUnits.{IsFreeBeside, least_extent}
use Rattle.region.proofs.HoleUnits.{free_unit}
use Rattle.region.proofs.FirstFit.{no_place, first_place}
use Rattle.region.proofs.Taking.{units_taken}
use Rattle.region.proofs.InUse.{placed}
use Rattle.region.proofs.region.Region.place.Goals as goal

pub returns-in-None-clause-least : goal.returns-in-None-clause-least
returns-in-None-clause-least c = λ extents held.
    let i = c.self.inside in
    let beside : IsFreeBeside (region_of i.sizes i.units) extents = subst (λ (r : RegionState). IsFreeBeside r extents) (sym c.self.view_is) held in
    subst (λ (r : RegionState). None ≡ least_extent extents r.units c.args.units) c.self.view_is
    (no_place i.sizes i.units extents c.args.units c.requires c.self.invariant.count c.self.invariant.holes beside c.in-None.ensures)

pub returns-in-Some-clause-least : goal.returns-in-Some-clause-least
returns-in-Some-clause-least c = λ extents held.
    let i = c.self.inside in
    let e : Extent = record { at = c.in-Some.at; units = c.args.units } in
    let beside : IsFreeBeside (region_of i.sizes i.units) extents = subst (λ (r : RegionState). IsFreeBeside r extents) (sym c.self.view_is) held in
    subst (λ (r : RegionState). Some e ≡ least_extent extents r.units c.args.units) c.self.view_is
    (first_place i.sizes i.units extents c.args.units c.requires c.self.invariant.count c.self.invariant.holes beside c.in-Some.at c.in-Some.ensures)

pub returns-in-Some-clause-adds : goal.returns-in-Some-clause-adds
returns-in-Some-clause-adds c = λ extents index held.
    let i = c.self.inside in
    let e : Extent = record { at = c.in-Some.at; units = c.args.units } in
    let old : RegionState = region_of i.sizes i.units in
    let new : RegionState = region_of c.take_front.new.sizes i.units in
    let beside : IsFreeBeside old extents = subst (λ (r : RegionState). IsFreeBeside r extents) (sym c.self.view_is) held in
    let takes = units_taken i.sizes c.take_front.new.sizes e.at e.units c.self.invariant.holes c.requires c.in-Some.ensures.room c.take_front.ensures.taken in
    placed old new extents index e beside c.requires refl (λ u low.
    free_unit c.take_front.new.sizes i.units u low ∙ takes u ∙ ap (λ (t : Bool). t && not (overlaps u 1 e)) (sym (free_unit i.sizes i.units u low)))
