use Rattle.std.specs.List.{AllAdjacentBelow}
use Rattle.base_checks.specs.Rows.{HasLowerNumber}
use Rattle.base_checks.proofs.order.have_rising_numbers.Given as goal

abbrev pub invariant-loop-place : goal.invariant-loop-place
invariant-loop-place l = AllAdjacentBelow HasLowerNumber l.blobs l.place
