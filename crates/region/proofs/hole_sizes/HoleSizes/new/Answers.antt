use Rattle.std.proofs.Common.{arith}
use Rattle.std.proofs.lemmas.Grind.{common_steps}
use Rattle.region.proofs.Bands.{none-greatest}
use Rattle.region.proofs.hole_sizes.HoleSizes.new.Goals as goal

pub invariant_of-result : goal.invariant_of-result
invariant_of-result c =
    record {
      greatest = none-greatest c.in_ok-zeros.field-0.items c.in_ok-zeros-2.field-0.items c.args.units c.in_ok-zeros.ensures c.in_ok-zeros-2.ensures;
      few = grind (arith, common_steps, c.in_ok-zeros.ensures);
    }
