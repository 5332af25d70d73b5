use Rattle.std.specs.List.{AllAdjacentBelow}
use Rattle.base_checks.specs.Rows.{NoLater}
use Rattle.base_checks.proofs.order.are_in_order.Given as goal

abbrev pub invariant-loop-place : goal.invariant-loop-place
invariant-loop-place l = AllAdjacentBelow NoLater l.tasks l.place
