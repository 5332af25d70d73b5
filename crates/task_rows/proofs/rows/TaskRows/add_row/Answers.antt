-- The new row comes behind the others, with the next number.
use Rattle.std.proofs.Common.{ap, sym, ◌∙◌}
use Rattle.swarm_model.specs.Effects.{no_of_task}
use Rattle.task_rows.specs.Plain.{TaskRowsState}
use Rattle.row_changes.proofs.Numbered.{pushed_numbered}
use Rattle.task_rows.proofs.Adding.{adds}
use Rattle.task_rows.proofs.rows.TaskRows.add_row.Goals as goal

pub invariant_of-self : goal.invariant_of-self
invariant_of-self c =
    let next = rw (← c.self.view_is) at c.requires.next in
    record {
      numbered = rw c.push_reserved.ensures.items (pushed_numbered no_of_task c.self.inside.rows.items c.row_from-row.result c.self.invariant.numbered (c.row_from-row.ensures.no ∙ next));
      prepared = rw c.take.ensures.after tt;
    }

pub returns-clause-rows : goal.returns-clause-rows
returns-clause-rows c = λ s of.
    let rows = of ∙ sym (ap (λ (kept : TaskRowsState). kept.rows) c.self.view_is) in
    rw c.push_reserved.ensures.items (adds c.self.inside.rows.items c.args.no c.args.entry.now c.row_from-row.result c.requires.adds c.row_from-row.ensures.row s rows)
