use Rattle.std.specs.List.{AllAdjacentBelow}
use Rattle.base_checks.specs.Keys.{ShareNone}
use Rattle.base_checks.proofs.overlap.has_overlap.Given as goal

abbrev pub invariant-loop-place : goal.invariant-loop-place
invariant-loop-place l = AllAdjacentBelow ShareNone l.extents l.place
