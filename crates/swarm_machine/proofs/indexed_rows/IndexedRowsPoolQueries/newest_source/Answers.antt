-- The task that stands under the hash is the newest source, where it is young enough.
use Rattle.std.proofs.Common.{ℕ, Option, sym, ap, ◌∙◌, subst}
use Rattle.std.specs.Option.{option_and_then}
use Rattle.swarm_machine.specs.Types.{TaskRow, PoolState}
use Rattle.swarm_model.specs.Finding.{task_of}
use Rattle.index_laws.specs.TaskSources.{if_young}
use Rattle.swarm_model.specs.BaseRules.{AreCreatedInOrder}
use Rattle.index_laws.proofs.CreatedInOrder.{created_in_order}
use Rattle.index_laws.proofs.SourceIsFound.{source_is_found}
use Rattle.common_rows.specs.Rows.{state_of}
use Rattle.swarm_machine.proofs.Holding.{kept_sound}
use Rattle.swarm_machine.proofs.indexed_rows.IndexedRowsPoolQueries.newest_source.Goals as goal

pub returns-clause-value : goal.returns-clause-value
returns-clause-value g c =
    let s = state_of c.self.inside.rows in
    let kept = c.self.invariant in
    let reached = kept.reached in
    let base = reached.replay_of.base in
    let created = subst (λ (p : PoolState). AreCreatedInOrder p.tasks) (sym reached.replay_of.replayed) (created_in_order reached.start.rows reached.log base.sound base.rows reached.replay_of.legal.caused) in
    let found = rw (← c.self.view_is) at c.found_row-newest.ensures.value in
    rw (← c.self.view_is)
    (c.if_young.ensures
    ∙ ap (λ (o : Option TaskRow). option_and_then (if_young s c.args.moment) o) found
    ∙ ap (λ (o : Option ℕ). option_and_then (if_young s c.args.moment) (option_and_then (task_of s) o)) c.newest.ensures
    ∙ source_is_found s (kept_sound c.self.inside kept) created c.self.inside.indexes.sources.links kept.indexed.sources c.args.digest.now c.args.moment)
