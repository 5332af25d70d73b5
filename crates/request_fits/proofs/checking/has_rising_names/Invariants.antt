use Rattle.std.proofs.Common.{◌≡◌, length}
use Rattle.dimensions.specs.Order.{is_rising_by}
use Rattle.task_props.specs.Sorted.{is_name_below}
use Rattle.request_fits.proofs.checking.has_rising_names.Given as goal

abbrev pub invariant-loop-left : goal.invariant-loop-left
invariant-loop-left l = is_rising_by is_name_below l.left ≡ is_rising_by is_name_below l.caches

abbrev pub decreases-loop-left : goal.decreases-loop-left
decreases-loop-left l = length l.left
