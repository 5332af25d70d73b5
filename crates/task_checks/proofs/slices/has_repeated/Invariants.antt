use Rattle.std.proofs.Common.{◌≡◌, drop}
use Rattle.task_props.specs.Slices.{has_repeated}
use Rattle.task_checks.proofs.slices.has_repeated.Given as goal

abbrev pub invariant-loop-place : goal.invariant-loop-place
invariant-loop-place l = has_repeated l.slices ≡ has_repeated (drop l.place l.slices)
