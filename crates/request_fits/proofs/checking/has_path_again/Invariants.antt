use Rattle.std.proofs.Common.{◌≡◌, drop}
use Rattle.task_props.specs.Sorted.{has_path_twice}
use Rattle.request_fits.proofs.checking.has_path_again.Given as goal

abbrev pub invariant-loop-place : goal.invariant-loop-place
invariant-loop-place l = has_path_twice l.caches ≡ has_path_twice (drop l.place l.caches)
