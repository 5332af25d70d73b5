use Rattle.std.proofs.Common.{◌≡◌, take, None}
use Rattle.std.specs.List.{fold, filter_map}
use Rattle.swarm_model.specs.Deadlines.{sooner, slice_end}
use Rattle.swarm_plain.proofs.deadlines.slices_ends.Given as goal

abbrev pub invariant-loop-task : goal.invariant-loop-task
invariant-loop-task l = l.soonest ≡ fold sooner None (filter_map slice_end (take l.task-index l.tasks))
