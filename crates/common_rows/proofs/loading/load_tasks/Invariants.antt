-- The rows so far are there.
use Rattle.std.proofs.Common.{◌≡◌, take}
use Rattle.common_rows.proofs.loading.load_tasks.Given as goal

abbrev pub invariant-loop-task : goal.invariant-loop-task
invariant-loop-task l = record { rows : l.loaded.rows ≡ take l.task-index l.tasks; retries : l.loaded.retries ≡ l.retries }
