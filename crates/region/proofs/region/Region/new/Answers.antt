-- All units are in one hole.
use Rattle.std.proofs.Common.{ℕ, List, [], subst, sym, ◌∙◌}
use Rattle.region.specs.HoleSizes.{region_of}
use Rattle.region.specs.FreeUnits.{IsFreeBeside}
use Rattle.region.proofs.Empty.{none_free, all_free}
use Rattle.region.proofs.region.Region.new.Goals.{then-units-gt0, else-units-gt0}
use Rattle.region.proofs.region.Region.new.Goals as goal

pub returns-clause-free : goal.returns-clause-free
returns-clause-free c =
    elim c.if-units-gt0.branch [
      | then-units-gt0 w ↦ subst (λ (sizes : List ℕ). IsFreeBeside (region_of sizes c.args.units) []) (sym (w.sizes-is ∙ w.set.ensures))
          (all_free c.in_ok-sizes.sizes c.args.units w.if-units-gt0.true c.in_ok-sizes.ensures.count c.in_ok-sizes.ensures.none)
      | else-units-gt0 w ↦ none_free c.if-units-gt0.sizes c.args.units w.if-units-gt0.false
    ]
