-- A task followed through a log.
use Rattle.std.proofs.Common.{◌≡◌, ℕ, List, [], ◌∷◌, refl, sym, ◌∙◌, subst, true}
use Rattle.pool_laws.specs.Types.{TaskRow, PoolState, Entry, EntryKind}
use Rattle.swarm_model.specs.Finding.{is_final}
use Rattle.swarm_model.specs.Effects.{task_after, added_tasks, after}
use Rattle.swarm_model.specs.History.{replay, IsCaused}
use Rattle.swarm_model.specs.Soundness.{IsSound}
use Rattle.pool_laws.proofs.Lists.{Among, among_map, among_left}
use Rattle.pool_laws.proofs.Preconditions.{Finds}
use Rattle.pool_laws.proofs.EntryPreconditions.{finds}
use Rattle.pool_laws.proofs.Rows.{task_by}
use Rattle.pool_laws.proofs.Tasks.{not_pending, not_running}
use Rattle.pool_laws.proofs.Numbers.{task_no}
use Rattle.pool_laws.proofs.Sound.{sound_after}

-- the row of the same number in the end
pub record Tracked (P : TaskRow → Type 0) (s : PoolState) (number : ℕ) : Type 0 where
  pub row : TaskRow
  pub among : Among row s.tasks
  pub named : row.no ≡ number
  pub holds : P row

-- no entry breaks the fact
abbrev pub Lasts : (TaskRow → Type 0) → Type 0
Lasts P = (s : PoolState) (m : ℕ) (k : EntryKind) → IsSound s → Finds s k → (x : TaskRow) → Among x s.tasks → P x → P (task_after s m k x)

-- a row is there after an entry
pub still_among : (s : PoolState) (e : Entry) (x : TaskRow) → Among x s.tasks → Among (task_after s e.moment e.kind x) (after s e).tasks
still_among s e x a = among_left (task_after s e.moment e.kind x) _ (added_tasks e.moment e.kind) (among_map (task_after s e.moment e.kind) s.tasks x a)

-- a fact that no entry breaks holds of the row in the end
pub track : (P : TaskRow → Type 0) → Lasts P → (s : PoolState) (log : List Entry) → IsSound s → IsCaused s log → (x : TaskRow) (n : ℕ) → Among x s.tasks → x.no ≡ n → P x → Tracked P (replay s log) n
track P lasts s [] o c x n a e p = record { row = x; among = a; named = e; holds = p }
track P lasts s (y ∷ log) o c x n a e p =
    let f = finds s y c.0 in
    track P lasts (after s y) log (sound_after s y o c.0) c.1 (task_after s y.moment y.kind x) n (still_among s y x a) (task_no s y.moment y.kind o f x a ∙ e) (lasts s y.moment y.kind o f x a p)

-- a task that is over stays as it is
pub final_same : (s : PoolState) (m : ℕ) (k : EntryKind) → IsSound s → Finds s k → (x : TaskRow) → Among x s.tasks → is_final x.state ≡ true → task_after s m k x ≡ x
final_same s m k o f x a final =
    task_by (λ (y : TaskRow). y ≡ x) s m o x a k f (record {
      same = refl;
      moves = λ w. absurd (cc (w, not_pending x.state final));
      loses = λ w. absurd (cc (w, not_running x.state final));
      begins = λ b t id is found w own. absurd (cc (w, not_pending x.state final));
      cancels = λ w. absurd (cc (w, not_pending x.state final));
      marks = λ w. absurd (cc (w, not_running x.state final));
      grows = λ chunk fresh g w. absurd (cc (w, not_running x.state final));
      finishes = λ chunk last report y w e. absurd (cc (w, e, not_running x.state final));
    })

-- so a final row lasts
pub final_lasts : (x : TaskRow) → is_final x.state ≡ true → Lasts (λ (y : TaskRow). y ≡ x)
final_lasts x final s m k o f y a e = final_same s m k o f y a (subst (λ (z : TaskRow). is_final z.state ≡ true) (sym e) final) ∙ e
