-- What waits first in the queues is the task that the bot gets.
use Rattle.std.proofs.Common.{Option, sym, ap, ◌∙◌}
use Rattle.std.specs.Option.{option_and_then}
use Rattle.dim_queue.specs.declared.waiting.Waiting.{Waiting}
use Rattle.swarm_model.specs.Finding.{task_of}
use Rattle.index_laws.proofs.FirstIsNext.{first_is_next}
use Rattle.common_rows.specs.Rows.{state_of}
use Rattle.swarm_machine.proofs.Holding.{kept_sound}
use Rattle.swarm_machine.proofs.indexed_rows.IndexedRowsPoolQueries.first_for.Goals as goal

pub returns-in-None-clause-value : goal.returns-in-None-clause-value
returns-in-None-clause-value g c =
    let s = state_of c.self.inside.rows in
    rw (← c.self.view_is)
    (ap (λ (o : Option Waiting). option_and_then (λ (w : Waiting). task_of s w.number) o) (sym c.in-None.is)
    ∙ first_is_next s (kept_sound c.self.inside c.self.invariant) c.self.inside.indexes.queues.queues c.self.invariant.indexed.queues c.args.no c.args.dims.now c.first_for.result c.first_for.ensures)

pub returns-in-Some-clause-value : goal.returns-in-Some-clause-value
returns-in-Some-clause-value g c =
    let s = state_of c.self.inside.rows in
    let found = rw (← c.self.view_is) at c.row.ensures.value in
    rw (← c.self.view_is)
    (found
    ∙ ap (λ (o : Option Waiting). option_and_then (λ (w : Waiting). task_of s w.number) o) (sym c.in-Some.is)
    ∙ first_is_next s (kept_sound c.self.inside c.self.invariant) c.self.inside.indexes.queues.queues c.self.invariant.indexed.queues c.args.no c.args.dims.now c.first_for.result c.first_for.ensures)
