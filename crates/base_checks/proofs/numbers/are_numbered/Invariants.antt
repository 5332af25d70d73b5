use Rattle.base_checks.specs.Bases.{AreNumberedTo}
use Rattle.base_checks.proofs.numbers.are_numbered.Given as goal

abbrev pub invariant-loop-place : goal.invariant-loop-place
invariant-loop-place g l = AreNumberedTo g.R.Row.no l.rows l.place
