-- The first hole with room begins at the least place.
use Rattle.std.proofs.Common.{◌≡◌, Some, None, subst, sym}
use Rattle.blob_rows.specs.declared.extent.Extent.{Extent}
use Rattle.region.specs.Plain.{RegionState}
use Rattle.region.specs.HoleSizes.{region_of}
use Rattle.region.specs.FreeUnits.{IsFreeBeside, least_extent}
use Rattle.region.proofs.FirstFit.{no_place, first_place}
use Rattle.region.proofs.region.Region.find.Goals as goal

pub returns-in-None : goal.returns-in-None
returns-in-None c =
    record {
      least = λ extents held.
          let i = c.self.inside in
          let beside : IsFreeBeside (region_of i.sizes i.units) extents = subst (λ (r : RegionState). IsFreeBeside r extents) (sym c.self.view_is) held in
          subst (λ (r : RegionState). None ≡ least_extent extents r.units c.args.units) c.self.view_is
          (no_place i.sizes i.units extents c.args.units c.requires c.self.invariant.count c.self.invariant.holes beside c.in-None.ensures);
    }

pub returns-in-Some : goal.returns-in-Some
returns-in-Some c =
    record {
      least = λ extents held.
          let i = c.self.inside in
          let e : Extent = record { at = c.in-Some.at; units = c.args.units } in
          let beside : IsFreeBeside (region_of i.sizes i.units) extents = subst (λ (r : RegionState). IsFreeBeside r extents) (sym c.self.view_is) held in
          subst (λ (r : RegionState). Some e ≡ least_extent extents r.units c.args.units) c.self.view_is
          (first_place i.sizes i.units extents c.args.units c.requires c.self.invariant.count c.self.invariant.holes beside c.in-Some.at c.in-Some.ensures);
    }
