use Rattle.std.proofs.Common.{arith}
use Rattle.region.proofs.Searches.{none_with, none_at_all}
use Rattle.region.proofs.hole_sizes.first_with.Goals as goal

pub overflow_mul-band : goal.overflow_mul-band
overflow_mul-band c = omega (arith, c.first_from-band.ensures.inside, c.requires.indexed.bands, c.requires.few)

pub returns-then-at-sizes : goal.returns-then-at-sizes
returns-then-at-sizes c =
    record {
      inside = c.if-at-sizes.true;
      room = c.first_from-at.ensures.found c.if-at-sizes.true;
      first = none_with c.args.sizes.now c.args.greatest.now c.requires.indexed c.args.units c.first_from-band.result c.min.result c.first_from-at.result c.requires.some
          c.first_from-band.ensures.passed c.min.ensures c.first_from-at.ensures.passed;
    }

pub returns-else-at-sizes : goal.returns-else-at-sizes
returns-else-at-sizes c =
    none_at_all c.args.sizes.now c.args.greatest.now c.requires.indexed c.args.units c.first_from-band.result c.min.result c.first_from-at.result c.requires.some
    c.first_from-band.ensures.passed c.min.ensures c.first_from-at.ensures.passed c.if-at-sizes.false
