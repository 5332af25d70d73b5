use Rattle.std.proofs.Common.{◌≡◌, length}
use Rattle.dimensions.specs.Order.{is_rising_by}
use Rattle.task_props.specs.Sorted.{is_path_below}
use Rattle.request_fits.proofs.checking.has_rising_paths.Given as goal

abbrev pub invariant-loop-left : goal.invariant-loop-left
invariant-loop-left l = is_rising_by is_path_below l.left ≡ is_rising_by is_path_below l.files

abbrev pub decreases-loop-left : goal.decreases-loop-left
decreases-loop-left l = length l.left
