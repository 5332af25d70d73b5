use Rattle.std.proofs.Common.{arith}
use Rattle.region.proofs.Searches.{none_between}
use Rattle.region.proofs.hole_sizes.last_before.Goals as goal

pub returns-then-end-gt0 : goal.returns-then-end-gt0
returns-then-end-gt0 c =
    let none = none_between c.args.sizes.now c.args.greatest.now c.requires.indexed c.args.place c.end_of_last-bands.result c.end_of_last-end.result c.requires.place
    (λ k low high. c.end_of_last-behind.ensures.passed k (omega (arith, low, c.if-behind-own.false)) high) c.end_of_last-bands.ensures.passed c.end_of_last-end.ensures.passed in
    record {
      before = omega (arith, c.end_of_last-end.ensures.inside, c.end_of_last-bands.ensures.inside, c.if-end-gt0.true);
      starts = c.end_of_last-end.ensures.found c.if-end-gt0.true;
      last = λ u low high. none u (omega (arith, low)) high;
    }

pub returns-else-end-gt0 : goal.returns-else-end-gt0
returns-else-end-gt0 c = λ u high.
    none_between c.args.sizes.now c.args.greatest.now c.requires.indexed c.args.place c.end_of_last-bands.result c.end_of_last-end.result c.requires.place
    (λ k low high. c.end_of_last-behind.ensures.passed k (omega (arith, low, c.if-behind-own.false)) high) c.end_of_last-bands.ensures.passed c.end_of_last-end.ensures.passed
    u (omega (arith, c.if-end-gt0.false)) high
