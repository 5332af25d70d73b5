use Rattle.std.proofs.Common.{◌≡◌, ℕ, ◌<◌, true, get_or}
use Rattle.swarm_model.specs.declared.task_row.TaskRow.{TaskRow}
use Rattle.base_checks.specs.Agreeing.{task_agrees}
use Rattle.base_checks.proofs.agreeing.tasks_agree.Given as goal

abbrev pub invariant-loop-task : goal.invariant-loop-task
invariant-loop-task l = (k : ℕ) (d : TaskRow) → k < l.task-index → task_agrees l.bots (get_or l.tasks k d) ≡ true
