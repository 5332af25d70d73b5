use Rattle.std.specs.List.{AllAdjacentBelow}
use Rattle.base_checks.specs.Keys.{Differ}
use Rattle.base_checks.proofs.twice.has_equal.Given as goal

abbrev pub invariant-loop-place : goal.invariant-loop-place
invariant-loop-place g l = AllAdjacentBelow (Differ g.K.Ord.cmp) l.keys l.place
