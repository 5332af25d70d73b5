-- What an entry leaves of the rows of tasks.
use Rattle.std.proofs.Common.{◌≡◌, ℕ, List, [], ◌++◌, map, Option, None, sym, ap, ◌∙◌, map-id, append-nil}
use Rattle.swarm_model.specs.declared.task_row.TaskRow.{TaskRow}
use Rattle.swarm_model.specs.declared.pool_state.PoolState.{PoolState}
use Rattle.swarm_model.specs.declared.entry.Entry.{Entry}
use Rattle.swarm_model.specs.declared.entry.EntryKind.{EntryKind}
use Rattle.swarm_model.specs.Effects.{after, task_after, added_tasks, if_some, lost_run_at}

-- a list that stayed
stays : {X : Type 0} (xs : List X) → xs ≡ map (λ x. x) xs ++ []
stays xs = sym (append-nil (map (λ x. x) xs) ∙ map-id xs)

-- the rows after an entry of a kind that leaves each of them, and adds none
pub kept_by : (old : List TaskRow) (s : PoolState) (e : Entry) (k : EntryKind) → e.kind ≡ k → s.tasks ≡ old → map (λ x. x) s.tasks ++ [] ≡ map (task_after s e.moment k) s.tasks ++ added_tasks e.moment k →
    old ≡ (after s e).tasks
kept_by old s e k is same left =
    sym same ∙ stays s.tasks ∙ left ∙ ap (λ (j : EntryKind). map (task_after s e.moment j) s.tasks ++ added_tasks e.moment j) (sym is)

-- where no run is lost, each row stays
pub none_lost : (retries moment : ℕ) (run : Option ℕ) (rows : List TaskRow) → run ≡ None → map (λ x. x) rows ++ [] ≡ map (λ task. if_some (lost_run_at retries moment) run task) rows ++ []
none_lost retries moment run rows none = ap (λ (o : Option ℕ). map (λ task. if_some (lost_run_at retries moment) o task) rows ++ []) (sym none)
