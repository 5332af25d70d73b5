use Rattle.std.proofs.Common.{◌≡◌, take}
use Rattle.std.specs.List.{fold, filter_map}
use Rattle.swarm_model.specs.Deadlines.{sooner, silence_end}
use Rattle.common_rows.specs.Rows.{state_of}
use Rattle.swarm_plain.proofs.deadlines.silences_ends.Given as goal

abbrev pub invariant-loop-task : goal.invariant-loop-task
invariant-loop-task l = l.soonest ≡ fold sooner l.fn.best (filter_map (silence_end (state_of l.rows)) (take l.task-index l.tasks))
