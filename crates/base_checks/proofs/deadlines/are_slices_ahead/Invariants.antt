use Rattle.std.proofs.Common.{◌≡◌, ℕ, ◌<◌, true, get_or}
use Rattle.swarm_model.specs.declared.task_row.TaskRow.{TaskRow}
use Rattle.base_checks.specs.Deadlines.{slice_is_ahead}
use Rattle.base_checks.proofs.deadlines.are_slices_ahead.Given as goal

abbrev pub invariant-loop-task : goal.invariant-loop-task
invariant-loop-task l = (k : ℕ) (d : TaskRow) → k < l.task-index → slice_is_ahead l.moment (get_or l.tasks k d) ≡ true
