-- The task at a place has the number after it.
use Rattle.std.proofs.Common.{sym, ◌∙◌}
use Rattle.std.proofs.lemmas.Option.{get_or_from_slice_get}
use Rattle.common_rows.proofs.NumberedTasks.{find_at, some_at}
use Rattle.common_rows.proofs.pages.task_at.Goals as goal

pub unreachable-requires : goal.unreachable-requires
unreachable-requires g c =
    some_at c.args.tasks.now.rows c.args.place c.requires.within (sym (find_at 1 c.args.tasks.now.rows c.args.place c.requires.numbered) ∙ sym c.in-None.ensures.row)

pub returns-clause-is : goal.returns-clause-is
returns-clause-is g c =
    sym (get_or_from_slice_get c.args.tasks.now.rows c.args.place c.in-Some.task.now c.in-Some.task.now
    (sym (find_at 1 c.args.tasks.now.rows c.args.place c.requires.numbered) ∙ sym c.in-Some.ensures.row))
