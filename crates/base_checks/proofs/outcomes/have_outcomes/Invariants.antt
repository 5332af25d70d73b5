use Rattle.std.proofs.Common.{◌≡◌, ℕ, ◌<◌, true, get_or}
use Rattle.swarm_model.specs.declared.task_row.TaskRow.{TaskRow}
use Rattle.base_checks.specs.Outcomes.{has_outcome}
use Rattle.base_checks.proofs.outcomes.have_outcomes.Given as goal

abbrev pub invariant-loop-task : goal.invariant-loop-task
invariant-loop-task l = (k : ℕ) (d : TaskRow) → k < l.task-index → has_outcome l.tasks (get_or l.tasks k d) ≡ true
