-- The rows before, and how often the pool retries, are those that the invariant speaks of.
use Rattle.std.proofs.Common.{ap, sym, ◌∙◌}
use Rattle.task_rows.specs.Plain.{TaskRowsState}
use Rattle.task_rows.proofs.rows.TaskRows.finish.Goals as goal

pub returns-clause-rows : goal.returns-clause-rows
returns-clause-rows c = λ s of set comes.
    c.end_run.ensures.rows s (of ∙ sym (ap (λ (kept : TaskRowsState). kept.rows) c.self.view_is)) (set ∙ sym (ap (λ (kept : TaskRowsState). kept.retries) c.self.view_is)) comes
