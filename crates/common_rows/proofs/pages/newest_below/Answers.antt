-- The newest of the first tasks is the first of those that are listed.
use Rattle.std.proofs.Common.{List, take, reverse, slice_get, ap, sym, ◌∙◌}
use Rattle.swarm_model.specs.declared.task_row.TaskRow.{TaskRow}
use Rattle.swarm_model.specs.Finding.{is_wanted}
use Rattle.pool_log.proofs.Finding.{find-reverse}
use Rattle.common_rows.proofs.pages.newest_below.Goals as goal

pub returns : goal.returns
returns g c =
    c.newest.ensures
    ∙ find-reverse (is_wanted c.args.wanted) (take c.count_below-count.result c.args.tasks.now.rows)
    ∙ ap (λ (tasks : List TaskRow). slice_get (reverse tasks) 0) (sym (c.count_below-count.ensures.first c.args.wanted))
