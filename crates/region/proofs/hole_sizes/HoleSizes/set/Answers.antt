use Rattle.std.proofs.Common.{◌<◌, ◌/◌, ℕ, List, length, set, subst, sym}
use Rattle.region.specs.SizesInside.{AreGreatestBeside}
use Rattle.region.proofs.Bands.{set-greatest}
use Rattle.region.proofs.hole_sizes.HoleSizes.set.Goals as goal

pub update_band-requires-clause-indexed : goal.update_band-requires-clause-indexed
update_band-requires-clause-indexed c =
    let i = c.self.inside in
    let low : c.args.unit < length i.sizes.items = subst (λ (sizes : List ℕ). c.args.unit < length sizes) (sym c.self.view_is) c.requires in
    let sizes : List ℕ = set i.sizes.items c.args.unit c.args.size in
    subst (λ (s : List ℕ). AreGreatestBeside (c.args.unit / 2048) s c.as_mut_slice.result.now) (sym c.as_slice.ensures.value)
    (subst (λ (g : List ℕ). AreGreatestBeside (c.args.unit / 2048) sizes g) (sym c.as_mut_slice.ensures.value)
    (set-greatest i.sizes.items i.greatest.items c.args.unit low c.args.size c.self.invariant.greatest))
