-- The rows before are those that the invariant speaks of.
use Rattle.std.proofs.Common.{ap, sym, ◌∙◌}
use Rattle.task_rows.specs.Plain.{TaskRowsState}
use Rattle.task_rows.proofs.rows.TaskRows.claim_row.Goals as goal

pub returns-clause-rows : goal.returns-clause-rows
returns-clause-rows c = λ s of. c.start.ensures.rows s (of ∙ sym (ap (λ (kept : TaskRowsState). kept.rows) c.self.view_is))
