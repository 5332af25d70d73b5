use Rattle.std.proofs.Common.{ℕ, Option}
use Rattle.swarm_model.specs.declared.task_row.TaskRow.{TaskRow}
use Rattle.swarm_model.specs.Pages.{listed_tasks}
use Rattle.swarm_model.specs.Views.{view_of}
use Rattle.pool_queries.proofs.Pages.{IsPage}
use Rattle.pool_queries.proofs.task_pages.list_tasks.Given as goal

abbrev pub invariant-loop-place : goal.invariant-loop-place
invariant-loop-place g l =
    let s = g.P.ReadQueries.state l.pool in
    IsPage (listed_tasks s l.wanted) (λ (last : Option ℕ). last) (λ (task : TaskRow). task.no) (view_of s) l.fn.below l.last l._place l.items.items
