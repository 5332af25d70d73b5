-- The link of the touched row after an entry follows from the rows before it.
use Rattle.std.proofs.Common.{◌≡◌, ℕ, ◌==◌, ◌&&◌, ◌||◌, not, Bool, true, false, cond, List, ◌+◌, ◌++◌, map, find, length, refl, sym, ap, ◌∙◌, subst, Option, Some, None, eqb-true}
use Rattle.std.specs.Prelude.{pos}
use Rattle.std.specs.Option.{option_map, option_map_or, option_and_then}
use Rattle.std.specs.Ordering.{int_eq}
use Rattle.std.proofs.lemmas.Bool.{and_left, and_right, cond_both, cond-false}
use Rattle.index_laws.specs.Types.{TaskState, Expired, Completed, BotDied, Killed, NoResource, TimedOut, Attempt, Chunk, Last, TaskRow, PoolState, EntryKind, Outcome}
use Rattle.swarm_model.specs.declared.entry.EntryKind.TheVariants as kind
use Rattle.swarm_model.specs.declared.entry.Outcome.TheVariants as outcome
use Rattle.swarm_model.specs.Numbers.{AreNumbered}
use Rattle.swarm_model.specs.Finding.{is_state, is_final, is_task}
use Rattle.swarm_model.specs.Slices.{admit}
use Rattle.swarm_model.specs.Deadlines.{last_state, next_of}
use Rattle.swarm_model.specs.Reuse.{ended_well}
use Rattle.swarm_model.specs.Views.{last_of}
use Rattle.swarm_model.specs.Effects.{no_of_task, task_after, added_tasks, new_row, expired_slice, lost_run, canceled, kill_marked, started_run, lengthened, with_chunk, with_last_report, reported, ended_run, end_state, fresh_chunk, attempt_of, run_of_bot}
use Rattle.swarm_model.specs.Soundness.{IsSound}
use Rattle.pool_laws.proofs.Lists.{Among, Found, find_is, each_append, each_map, each_one}
use Rattle.pool_laws.proofs.Preconditions.{Finds, FindsUpdate}
use Rattle.pool_laws.proofs.EntryPreconditions.{finds}
use Rattle.pool_laws.proofs.Rows.{find_task, goes_to, lost_is, lost_by, reported_task, update_task}
use Rattle.pool_laws.proofs.Numbers.{task_no, tasks_numbered}
use Rattle.index_laws.specs.Touched.{touched_task}
use Rattle.index_laws.specs.TaskSources.{slice_hash_of, link_under, source_of, ends_well, link_by_report, source_link_before, SourceHashIsKnownBefore}
use Rattle.index_laws.proofs.NumberedRows.{changed_found}
use Rattle.index_laws.proofs.ToCome.{own}
use Rattle.index_laws.proofs.TouchedRows.{touched_goes_on}

-- a task that has not ended has not completed
on_not_completed : (state : TaskState) → is_final state ≡ false → is_state state Completed ≡ false
on_not_completed Completed e = absurd (cc (e))
on_not_completed state e = refl

-- and one that has not completed gives no link
none_unless_completed : (x : TaskRow) → is_state x.state Completed ≡ false → source_of x ≡ None
none_unless_completed x e = ap (option_map (link_under x)) (cond-false (ended_well x) (slice_hash_of x) None (and_left (is_state x.state Completed) (option_map_or (λ (last : Last). int_eq last.exit_code (pos 0)) (last_of x) false) e))

-- nor does a row that is added, since it has no run
none_added : (m : ℕ) (k : EntryKind) (x : TaskRow) → Among x (added_tasks m k) → source_of x ≡ None
none_added m (kind.New t who request state slice from) x a =
    each_one (λ (y : TaskRow). source_of y ≡ None) row (ap (option_map (link_under row)) (cond-false (ended_well row) (slice_hash_of row) None (and_right (is_state state Completed) false refl))) x a
  where
    row : TaskRow
    row = new_row m t who request state slice from
none_added m k x a = elim a [ ]

-- ---- entries that end no run by a report

abbrev is_report : EntryKind → Bool
is_report (kind.Update b t try_no chunk last) = true
is_report entry = false

module _ (s : PoolState) (o : IsSound s) (m : ℕ) where
  abbrev NotCompleted : TaskRow → Type 0
  NotCompleted x = is_state x.state Completed ≡ false

  -- nothing but a report completes a task
  not_completed : (k : EntryKind) → Finds s k → is_report k ≡ false → (x : TaskRow) → Among x s.tasks → NotCompleted x → NotCompleted (task_after s m k x)
  not_completed k f r x a p = by_kind k f r
    where
      moved : NotCompleted (expired_slice m (next_of s x) x)
      moved = by_place (admit s x.request.task_slices (x.slice + 1))
        where
          by_place : (q : Option ℕ) → NotCompleted (expired_slice m (option_map_or outcome.Slice q (outcome.Ended (last_state x))) x)
          by_place None = cond_both (x.slice + 1 == length x.request.task_slices) Expired NoResource (λ (z : TaskState). is_state z Completed ≡ false) (λ t. refl) (λ t. refl)
          by_place (Some place) = p

      lost : NotCompleted (lost_run s.settings.retries m x)
      lost = lost_is NotCompleted s.settings.retries m x (λ t. refl) (λ t. by_attempt x.attempt)
        where
          by_attempt : (q : Option Attempt) → is_state (end_state q BotDied) Completed ≡ false
          by_attempt None = refl
          by_attempt (Some attempt) = cond_both attempt.kill Killed BotDied (λ (z : TaskState). is_state z Completed ≡ false) (λ t. refl) (λ t. refl)

      by_kind : (k : EntryKind) → Finds s k → is_report k ≡ false → NotCompleted (task_after s m k x)
      by_kind (kind.Slice t to) f r =
          cond_both (x.no == t) (expired_slice m to x) x NotCompleted (λ n. subst (λ (z : Outcome). NotCompleted (expired_slice m z x)) (sym (goes_to s o t to f x a n)) moved) (λ n. p)
      by_kind (kind.Silence t) f r = cond_both (x.no == t) (lost_run s.settings.retries m x) x NotCompleted (λ n. lost) (λ n. p)
      by_kind (kind.Cancel t) f r = cond_both (x.no == t) (canceled m x) x NotCompleted (λ n. refl) (λ n. p)
      by_kind (kind.Kill t) f r = cond_both (x.no == t) (kill_marked x) x NotCompleted (λ n. p) (λ n. p)
      by_kind (kind.Handshake b id session dims q) f r = lost_by NotCompleted s m o x a p (λ w. lost) b (run_of_bot s b) refl
      by_kind (kind.Claim b t id) f r = cond_both (x.no == t) (started_run m b id x) x NotCompleted (λ n. refl) (λ n. p)
      by_kind (kind.Update b t try_no chunk last) f r = absurd (cc (r))
      by_kind k f r = p

  -- the rows after an entry of this kind
  abbrev rows_after : EntryKind → List TaskRow
  rows_after k = map (task_after s m k) s.tasks ++ added_tasks m k

  none_comes : (k : EntryKind) → Finds s k → is_report k ≡ false → option_and_then source_of (option_and_then (λ n. find (is_task n) (rows_after k)) (touched_task s k)) ≡ None
  none_comes k f r = by_number (touched_task s k) refl
    where
      of_row : (n : ℕ) → touched_task s k ≡ Some n → (y : TaskRow) → Among y (rows_after k) → y.no ≡ n → source_of y ≡ None
      of_row n u =
          each_append (λ (y : TaskRow). y.no ≡ n → source_of y ≡ None) (map (task_after s m k) s.tasks) (added_tasks m k)
          (each_map (λ (y : TaskRow). y.no ≡ n → source_of y ≡ None) (task_after s m k) s.tasks (λ x a e.
          let on : is_final x.state ≡ false = touched_goes_on s o x a k f (u ∙ ap (λ (j : ℕ). Some j) (sym e ∙ task_no s m k o f x a)) in
          none_unless_completed (task_after s m k x) (not_completed k f r x a (on_not_completed x.state on))))
          (λ y a e. none_added m k y a)

      by_row : (n : ℕ) → touched_task s k ≡ Some n → (q : Option TaskRow) → find (is_task n) (rows_after k) ≡ q → option_and_then source_of q ≡ None
      by_row n u None g = refl
      by_row n u (Some y) g = (let found : Found (is_task n) (rows_after k) y = find_is (is_task n) (rows_after k) y g in of_row n u y found.among (eqb-true y.no n found.passes))

      by_number : (q : Option ℕ) → touched_task s k ≡ q → option_and_then source_of (option_and_then (λ n. find (is_task n) (rows_after k)) q) ≡ None
      by_number None u = refl
      by_number (Some n) u = by_row n u (find (is_task n) (rows_after k)) refl

  -- ---- a report

  -- whether a run ends well is known before its report
  well_known : (chunk : Option Chunk) (last : Last) (r : Option Attempt) →
      (is_state (end_state r (reported last)) Completed && option_map_or (λ (l : Last). int_eq l.exit_code (pos 0)) (option_and_then (λ (a : Attempt). a.last) (option_map (with_last_report chunk last) r)) false)
      ≡ option_map_or (ends_well last) r false
  well_known chunk last None = and_right (is_state (reported last) Completed) false refl
  well_known chunk last (Some a) = by_tests a.kill (last.hard_timeout || last.io_timeout)
    where
      by_tests : (kill late : Bool) → (is_state (cond kill Killed (cond late TimedOut Completed)) Completed && int_eq last.exit_code (pos 0)) ≡ (not kill && (not late && int_eq last.exit_code (pos 0)))
      by_tests true late = refl
      by_tests false true = refl
      by_tests false false = refl

  -- the output of a run has no part in it
  well_longer : (last : Last) (chunk : Chunk) (r : Option Attempt) → option_map_or (ends_well last) (option_map (with_chunk chunk) r) false ≡ option_map_or (ends_well last) r false
  well_longer last chunk None = refl
  well_longer last chunk (Some a) = refl

  module _ (x : TaskRow) where
    link_if : (c d : Bool) → c ≡ d → option_map (link_under x) (cond c (slice_hash_of x) None) ≡ cond d (option_map (link_under x) (slice_hash_of x)) None
    link_if true d e = subst (λ (b : Bool). option_map (link_under x) (slice_hash_of x) ≡ cond b (option_map (link_under x) (slice_hash_of x)) None) e refl
    link_if false d e = subst (λ (b : Bool). None ≡ cond b (option_map (link_under x) (slice_hash_of x)) None) e refl

    ended_link : (fresh chunk : Option Chunk) (last : Last) → source_of (reported_task m fresh chunk (Some last) x) ≡ link_by_report last x
    ended_link None chunk last = link_if (ended_well (ended_run m chunk last x)) (option_map_or (ends_well last) x.attempt false) (well_known chunk last x.attempt)
    ended_link (Some c) chunk last =
        link_if (ended_well (ended_run m chunk last (lengthened c x))) (option_map_or (ends_well last) x.attempt false)
        (well_known chunk last (option_map (with_chunk c) x.attempt) ∙ well_longer last c x.attempt)

    running_link : is_state x.state Completed ≡ false → (fresh chunk : Option Chunk) → source_of (reported_task m fresh chunk None x) ≡ None
    running_link e None chunk = none_unless_completed x e
    running_link e (Some c) chunk = none_unless_completed (lengthened c x) e

  report_comes : (b t try_no : ℕ) (chunk : Option Chunk) (last : Option Last) → FindsUpdate s b t chunk last → AreNumbered no_of_task 1 (rows_after (kind.Update b t try_no chunk last)) →
      option_and_then source_of (find (is_task t) (rows_after (kind.Update b t try_no chunk last))) ≡ source_link_before s.tasks (kind.Update b t try_no chunk last)
  report_comes b t try_no chunk last f are = ap (option_and_then source_of) there ∙ by_last last
    where
      k : EntryKind
      k = kind.Update b t try_no chunk last

      x : TaskRow
      x = f.task

      fresh : Option Chunk
      fresh = fresh_chunk (attempt_of s t) chunk

      there : find (is_task t) (rows_after k) ≡ Some (reported_task m fresh chunk last x)
      there =
          subst (λ (n : ℕ). find (is_task n) (rows_after k) ≡ Some (task_after s m k x)) f.named
          (changed_found no_of_task (task_after s m k) s.tasks (added_tasks m k) o.tasks_numbered are (task_no s m k o f) x f.among)
          ∙ ap (λ (y : TaskRow). Some y) (update_task s m b t try_no chunk last x ∙ own t x (reported_task m fresh chunk last x) f.named)

      by_last : (l : Option Last) → source_of (reported_task m fresh chunk l x) ≡ source_link_before s.tasks (kind.Update b t try_no chunk l)
      by_last None = running_link x (on_not_completed x.state f.goes_on) fresh chunk
      by_last (Some l) = ended_link x fresh chunk l ∙ sym (ap (option_and_then (link_by_report l)) (find_task s o x t f.among f.named))

  comes : (k : EntryKind) → Finds s k → AreNumbered no_of_task 1 (rows_after k) → option_and_then source_of (option_and_then (λ n. find (is_task n) (rows_after k)) (touched_task s k)) ≡ source_link_before s.tasks k
  comes (kind.Update b t try_no chunk last) f are = report_comes b t try_no chunk last f are
  comes k f are = none_comes k f refl

pub source_hash_is_known_before : SourceHashIsKnownBefore
source_hash_is_known_before s e o follows = comes s o e.moment e.kind (finds s e follows) (tasks_numbered s e o follows)
