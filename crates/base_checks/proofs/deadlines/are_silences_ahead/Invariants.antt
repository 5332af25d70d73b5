use Rattle.std.proofs.Common.{◌≡◌, ℕ, ◌<◌, true, get_or}
use Rattle.swarm_model.specs.declared.task_row.TaskRow.{TaskRow}
use Rattle.base_checks.specs.Deadlines.{silence_is_ahead}
use Rattle.base_checks.proofs.deadlines.are_silences_ahead.Given as goal

abbrev pub invariant-loop-task : goal.invariant-loop-task
invariant-loop-task l = (k : ℕ) (d : TaskRow) → k < l.task-index → silence_is_ahead l.moment l.bots (get_or l.tasks k d) ≡ true
