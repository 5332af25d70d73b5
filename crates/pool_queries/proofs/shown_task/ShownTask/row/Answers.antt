-- A lost run changes none of these.
use Rattle.std.proofs.Common.{subst}
use Rattle.std.specs.Option.{option_copied}
use Rattle.pool_queries.proofs.Shown.{IsOfTask, shown_is_of_task}
use Rattle.pool_queries.proofs.shown_task.ShownTask.row.Goals as goal

pub returns : goal.returns
returns c =
    let task = c.self.inside.task.now in
    let same = subst (IsOfTask task) c.self.view_is (shown_is_of_task task (option_copied c.self.inside.lost)) in
    record { no = same.no; creator = same.creator; request = same.request; created = same.created; source = same.source }
