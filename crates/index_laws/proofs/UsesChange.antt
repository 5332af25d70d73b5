-- What an entry changes of the uses of the touched row, and of all.
use Rattle.std.proofs.Common.{◌≡◌, ℕ, ◌+◌, ◌==◌, Bool, true, false, cond, List, [], ◌∷◌, ◌++◌, map, find, refl, sym, ap, ◌∙◌, subst, arith, Option, Some, None, eqb-true}
use Rattle.std.specs.Option.{option_map, option_map_or, option_and_then}
use Rattle.std.proofs.lemmas.Bool.{cond_both, cond-true, cond-false, eq-eqb}
use Rattle.std.proofs.lemmas.Option.{same_Some}
use Rattle.std.proofs.lemmas.List.Sums.{sum_by_push}
use Rattle.task_props.specs.declared.new_task.NewTask.{NewTask}
use Rattle.index_laws.specs.Types.{TaskState, Pending, Attempt, Chunk, Last, Retried, TaskRow, PoolState, EntryKind, Outcome}
use Rattle.swarm_model.specs.declared.entry.EntryKind.TheVariants as kind
use Rattle.swarm_model.specs.declared.entry.Outcome.TheVariants as outcome
use Rattle.swarm_model.specs.Numbers.{AreNumbered}
use Rattle.swarm_model.specs.Finding.{is_state, is_final, is_task, task_of}
use Rattle.swarm_model.specs.Uses.{is_chunk_of}
use Rattle.swarm_model.specs.Effects.{no_of_task, task_after, added_tasks, new_row, expired_slice, retried_from, lost_run, lost_run_at, canceled, killed, kill_marked, started_run, with_chunk, with_last_report, ended_run, fresh_chunk, attempt_of, if_some, run_of_bot}
use Rattle.swarm_model.specs.Soundness.{IsSound}
use Rattle.pool_laws.proofs.Lists.{Among, here, Found, find_is, find_none, number_finds, number_within, among_right, each_append, each_map}
use Rattle.pool_laws.proofs.Preconditions.{Finds, waits}
use Rattle.pool_laws.proofs.EntryPreconditions.{finds}
use Rattle.pool_laws.proofs.Rows.{fits_in, task_is, one_task, row_is, claim_waits, lost_is, reported_task, update_task}
use Rattle.pool_laws.proofs.Numbers.{task_no, tasks_numbered}
use Rattle.index_laws.specs.Touched.{touched_task}
use Rattle.index_laws.specs.RowSums.{weight_of_row}
use Rattle.index_laws.specs.TaskUses.{uses_of_slices, chunks_with, times_named, uses_of, chunk_use, uses_to_come, row_before, row_after, touched_has_ended, UsesOfTouched, NamesOfTouched, UsesWhereEnded, UsesWhereNotEnded}
use Rattle.index_laws.proofs.NumberedRows.{changed_found}
use Rattle.index_laws.proofs.LostRuns.{none_before}
use Rattle.index_laws.proofs.ToCome.{own}
use Rattle.index_laws.proofs.TouchedRows.{touched_goes_on}
use Rattle.index_laws.proofs.SumsFollow.{sums_follow}

plus_none : (a b : ℕ) → a ≡ b → a ≡ b + 0
plus_none a b e = omega (arith, e)

plus_more : (a b c d l : ℕ) → b ≡ c + d → a + (b + l) ≡ a + (c + l) + d
plus_more a b c d l e = omega (arith, e)

abbrev is_new : EntryKind → Bool
is_new (kind.New t who request state slice from) = true
is_new entry = false

module _ (digest : List ℕ) where
  -- what the output of a run adds
  abbrev of_output : Option Attempt → ℕ
  of_output r = option_map_or (chunks_with digest) r 0

  -- a run that is asked to stop keeps its output
  killed_same : (r : Option Attempt) → of_output (option_map killed r) ≡ of_output r
  killed_same None = refl
  killed_same (Some a) = refl

  -- and so does one that ends by a report
  closed_same : (chunk : Option Chunk) (last : Last) (r : Option Attempt) → of_output (option_map (with_last_report chunk last) r) ≡ of_output r
  closed_same chunk last None = refl
  closed_same chunk last (Some a) = refl

  -- what that of a run adds which was tried again
  abbrev of_lost : Option Retried → ℕ
  of_lost q = option_map_or (λ (lost : Retried). chunks_with digest lost.attempt) q 0

  -- as much as before it was lost
  lost_same : (m slice : ℕ) (r : Option Attempt) → of_lost (option_map (retried_from m slice) r) ≡ of_output r
  lost_same m slice None = refl
  lost_same m slice (Some a) = refl

  -- a chunk that goes on from it adds its use
  longer_more : (chunk : Chunk) (a : Attempt) → of_output (Some (with_chunk chunk a)) ≡ of_output (Some a) + chunk_use digest chunk
  longer_more chunk a = sum_by_push (λ (c : Chunk). cond (is_chunk_of digest c) 1 0) a.chunks chunk

  -- a task that waits has no output yet
  none_yet : (state : TaskState) (r : Option Attempt) (ended : Option ℕ) → fits_in state r ended ≡ true → is_state state Pending ≡ true → of_output r ≡ 0
  none_yet state None ended h w = refl
  none_yet Pending (Some a) ended h w = absurd (cc (h))
  none_yet state (Some a) ended h w = absurd (cc (w))

  -- what a report adds
  abbrev of_fresh : Option Chunk → ℕ
  of_fresh fresh = option_map_or (chunk_use digest) fresh 0

  longer_on : (chunk : Chunk) (r : Option Attempt) (a : Attempt) → r ≡ Some a → of_output (option_map (with_chunk chunk) r) ≡ of_output r + chunk_use digest chunk
  longer_on chunk None a e = absurd (cc (e))
  longer_on chunk (Some b) a e = longer_more chunk b

  reported_more : (m : ℕ) (fresh chunk : Option Chunk) (last : Option Last) (x : TaskRow) (a : Attempt) → x.attempt ≡ Some a → times_named digest (reported_task m fresh chunk last x) ≡ times_named digest x + of_fresh fresh
  reported_more m None chunk None x a e = plus_none (times_named digest x) (times_named digest x) refl
  reported_more m None chunk (Some last) x a e = plus_none (times_named digest (ended_run m chunk last x)) (times_named digest x) (ap (λ (n : ℕ). uses_of_slices digest x.request.task_slices + (n + of_lost x.retried)) (closed_same chunk last x.attempt))
  reported_more m (Some c) chunk None x a e = plus_more (uses_of_slices digest x.request.task_slices) (of_output (option_map (with_chunk c) x.attempt)) (of_output x.attempt) (chunk_use digest c) (of_lost x.retried) (longer_on c x.attempt a e)
  reported_more m (Some c) chunk (Some last) x a e =
      plus_more (uses_of_slices digest x.request.task_slices) (of_output (option_map (with_last_report chunk last) (option_map (with_chunk c) x.attempt))) (of_output x.attempt) (chunk_use digest c) (of_lost x.retried)
      (closed_same chunk last (option_map (with_chunk c) x.attempt) ∙ longer_on c x.attempt a e)

  module _ (s : PoolState) (o : IsSound s) (m : ℕ) where
    -- what the touched row names after an entry
    row_more : (k : EntryKind) → Finds s k → (x : TaskRow) → Among x s.tasks → touched_task s k ≡ Some x.no → times_named digest (task_after s m k x) ≡ times_named digest x + uses_to_come s.tasks k digest
    row_more k f x a u = by_kind k f u
      where
        -- a row that names as much as before
        Same : TaskRow → Type 0
        Same y = times_named digest y ≡ times_named digest x + 0

        same : Same x
        same = plus_none (times_named digest x) (times_named digest x) refl

        moved : (to : Outcome) → Same (expired_slice m to x)
        moved (outcome.Slice place) = same
        moved (outcome.Ended state) = same

        lost : Same (lost_run s.settings.retries m x)
        lost =
            lost_is Same s.settings.retries m x
            (λ t. again (uses_of_slices digest x.request.task_slices) (of_lost (option_map (retried_from m x.slice) x.attempt)) (of_output x.attempt) (of_lost x.retried) (lost_same m x.slice x.attempt) (ap of_lost (none_before s o x a t)))
            (λ t. same)
          where
            again : (c l d b : ℕ) → l ≡ d → b ≡ 0 → c + (0 + l) ≡ c + (d + b) + 0
            again c l d b e g = omega (arith, e, g)

        by_kind : (k : EntryKind) → Finds s k → touched_task s k ≡ Some x.no → times_named digest (task_after s m k x) ≡ times_named digest x + uses_to_come s.tasks k digest
        by_kind (kind.Slice t to) f u = cond_both (x.no == t) (expired_slice m to x) x Same (λ n. moved to) (λ n. same)
        by_kind (kind.Silence t) f u = cond_both (x.no == t) (lost_run s.settings.retries m x) x Same (λ n. lost) (λ n. same)
        by_kind (kind.New t who request state slice from) f u =
            absurd (let low = (number_within no_of_task 1 s.tasks o.tasks_numbered x a).1 in let next = f.next in let is : t ≡ x.no = same_Some _ _ u in omega (arith, low, next, is))
        by_kind (kind.Cancel t) f u = cond_both (x.no == t) (canceled m x) x Same (λ n. same) (λ n. same)
        by_kind (kind.Kill t) f u =
            cond_both (x.no == t) (kill_marked x) x Same
            (λ n. plus_none (times_named digest (kill_marked x)) (times_named digest x) (ap (λ (j : ℕ). uses_of_slices digest x.request.task_slices + (j + of_lost x.retried)) (killed_same x.attempt))) (λ n. same)
        by_kind (kind.Handshake b id session dims q) f u = by_run (run_of_bot s b)
          where
            by_run : (r : Option ℕ) → Same (if_some (lost_run_at s.settings.retries m) r x)
            by_run None = same
            by_run (Some t) = cond_both (x.no == t) (lost_run s.settings.retries m x) x Same (λ n. lost) (λ n. same)
        by_kind (kind.Claim b t id) f u =
            cond_both (x.no == t) (started_run m b id x) x Same
            (λ n. begun (uses_of_slices digest x.request.task_slices) (of_output x.attempt) (of_lost x.retried) (none_yet x.state x.attempt x.ended (task_is s o x a).state (row_is s o t waits (claim_waits s b t id f) x a n))) (λ n. same)
          where
            begun : (c d l : ℕ) → d ≡ 0 → c + (0 + l) ≡ c + (d + l) + 0
            begun c d l e = omega (arith, e)
        by_kind (kind.Update b t try_no chunk last) f u =
            (let is : x.no ≡ t = sym (same_Some _ _ u) in
            let fresh : Option Chunk = fresh_chunk (attempt_of s t) chunk in
            let its : f.task ≡ x = one_task s o f.task x f.among a (f.named ∙ sym is) in
            ap (times_named digest) (update_task s m b t try_no chunk last x ∙ own t x (reported_task m fresh chunk last x) is)
            ∙ reported_more m fresh chunk last x f.attempt (ap (λ (y : TaskRow). y.attempt) (sym its) ∙ f.attempted))
        by_kind k f u = same

    -- the rows after an entry of a kind
    abbrev rows_after : EntryKind → List TaskRow
    rows_after k = map (task_after s m k) s.tasks ++ added_tasks m k

    abbrev Changes : EntryKind → Option ℕ → Type 0
    Changes k touched =
        weight_of_row (times_named digest) (option_and_then (λ n. find (is_task n) (rows_after k)) touched)
        ≡ weight_of_row (uses_of digest) (option_and_then (task_of s) touched) + uses_to_come s.tasks k digest

    -- a new task names its inputs
    new_names : (t : ℕ) (who : List ℕ) (request : NewTask) (state : TaskState) (slice : ℕ) (from : Option ℕ) → Finds s (kind.New t who request state slice from) → AreNumbered no_of_task 1 (rows_after (kind.New t who request state slice from)) →
        Changes (kind.New t who request state slice from) (Some t)
    new_names t who request state slice from f are = ap (weight_of_row (times_named digest)) there ∙ begun (uses_of_slices digest request.task_slices) (weight_of_row (uses_of digest) (task_of s t)) (unknown (task_of s t) refl)
      where
        k : EntryKind
        k = kind.New t who request state slice from

        row : TaskRow
        row = new_row m t who request state slice from

        there : find (is_task t) (rows_after k) ≡ Some row
        there = number_finds no_of_task 1 (rows_after k) are row (among_right row (map (task_after s m k) s.tasks) (row ∷ []) here)

        begun : (c d : ℕ) → d ≡ 0 → c + 0 ≡ d + c
        begun c d e = omega (arith, e)

        unknown : (r : Option TaskRow) → task_of s t ≡ r → weight_of_row (uses_of digest) r ≡ 0
        unknown None g = refl
        unknown (Some x) g =
            (let found : Found (is_task t) s.tasks x = find_is (is_task t) s.tasks x g in
            let low = (number_within no_of_task 1 s.tasks o.tasks_numbered x found.among).1 in
            let next = f.next in
            let is : x.no ≡ t = eqb-true x.no t found.passes in
            absurd (omega (arith, low, next, is)))

    -- where no row is touched, none is brought
    none_brought : (k : EntryKind) → Finds s k → is_new k ≡ false → ((n : ℕ) → touched_task s k ≡ Some n → task_of s n ≡ None) → uses_to_come s.tasks k digest ≡ 0
    none_brought (kind.New t who request state slice from) f old none = absurd (cc (old))
    none_brought (kind.Update b t try_no chunk last) f old none = absurd (let gone : task_of s t ≡ None = none t refl in cc (gone, f.there))
    none_brought k f old none = refl

    -- an entry of another kind adds no row
    none_added : (k : EntryKind) → is_new k ≡ false → (x : TaskRow) → Among x (added_tasks m k) → ⊥
    none_added (kind.New t who request state slice from) old x a = absurd (cc (old))
    none_added k old x a = elim a [ ]

    old_names : (k : EntryKind) → Finds s k → is_new k ≡ false → AreNumbered no_of_task 1 (rows_after k) → Changes k (touched_task s k)
    old_names k f old are = by_number (touched_task s k) refl
      where
        none_after : (n : ℕ) → task_of s n ≡ None → (r : Option TaskRow) → find (is_task n) (rows_after k) ≡ r → weight_of_row (times_named digest) r ≡ 0
        none_after n g None h = refl
        none_after n g (Some y) h =
            (let found : Found (is_task n) (rows_after k) y = find_is (is_task n) (rows_after k) y h in
            absurd (each_append (λ (z : TaskRow). z.no ≡ n → ⊥) (map (task_after s m k) s.tasks) (added_tasks m k)
            (each_map (λ (z : TaskRow). z.no ≡ n → ⊥) (task_after s m k) s.tasks (λ x a e.
            let is : (x.no == n) ≡ true = eq-eqb x.no n (sym (task_no s m k o f x a) ∙ e) in let not_it = find_none (is_task n) s.tasks g x a in cc (is, not_it)))
            (λ x a e. none_added k old x a) y found.among (eqb-true y.no n found.passes)))

        by_row : (n : ℕ) → touched_task s k ≡ Some n → (r : Option TaskRow) → task_of s n ≡ r →
            weight_of_row (times_named digest) (find (is_task n) (rows_after k)) ≡ weight_of_row (uses_of digest) r + uses_to_come s.tasks k digest
        by_row n u None g =
            (let left = none_after n g (find (is_task n) (rows_after k)) refl in
            let right = none_brought k f old (λ j v. subst (λ (i : ℕ). task_of s i ≡ None) (same_Some _ _ (sym u ∙ v)) g) in
            omega (arith, left, right))
        by_row n u (Some x) g =
            (let found : Found (is_task n) s.tasks x = find_is (is_task n) s.tasks x g in
            let is : x.no ≡ n = eqb-true x.no n found.passes in
            let its : touched_task s k ≡ Some x.no = u ∙ ap (λ (j : ℕ). Some j) (sym is) in
            let there : find (is_task n) (rows_after k) ≡ Some (task_after s m k x) =
            subst (λ (j : ℕ). find (is_task j) (rows_after k) ≡ Some (task_after s m k x)) is (changed_found no_of_task (task_after s m k) s.tasks (added_tasks m k) o.tasks_numbered are (task_no s m k o f) x found.among) in
            ap (weight_of_row (times_named digest)) there
            ∙ row_more k f x found.among its
            ∙ ap (λ (j : ℕ). j + uses_to_come s.tasks k digest) (sym (cond-false (is_final x.state) 0 (times_named digest x) (touched_goes_on s o x found.among k f its))))

        by_number : (r : Option ℕ) → touched_task s k ≡ r → Changes k r
        by_number None u = (let right = none_brought k f old (λ n v. absurd (let e : None ≡ Some n = sym u ∙ v in cc (e))) in omega (arith, right))
        by_number (Some n) u = by_row n u (task_of s n) refl

    names : (k : EntryKind) → Finds s k → AreNumbered no_of_task 1 (rows_after k) → Changes k (touched_task s k)
    names (kind.New t who request state slice from) f are = new_names t who request state slice from f are
    names k f are = old_names k f refl are

pub names_of_touched : NamesOfTouched
names_of_touched s e o follows digest = names digest s o e.moment e.kind (finds s e follows) (tasks_numbered s e o follows)

pub uses_of_touched : UsesOfTouched
uses_of_touched s e o follows digest = by_row (row_after s e) (names_of_touched s e o follows digest)
  where
    After : ℕ
    After = weight_of_row (uses_of digest) (row_before s e) + uses_to_come s.tasks e.kind digest

    by_final : (x : TaskRow) (c : Bool) → times_named digest x ≡ After → cond c 0 (times_named digest x) ≡ cond c 0 After
    by_final x true h = refl
    by_final x false h = h

    by_row : (r : Option TaskRow) → weight_of_row (times_named digest) r ≡ After → weight_of_row (uses_of digest) r ≡ cond (option_map_or (λ (task : TaskRow). is_final task.state) r false) 0 After
    by_row None h = h
    by_row (Some x) h = by_final x (is_final x.state) h

pub uses_where_ended : UsesWhereEnded
uses_where_ended s e o follows ends digest =
    let sums = sums_follow s e o follows (uses_of digest) in
    let own = uses_of_touched s e o follows digest ∙ cond-true (touched_has_ended s e) 0 (weight_of_row (uses_of digest) (row_before s e) + uses_to_come s.tasks e.kind digest) ends in
    omega (arith, sums, own)

pub uses_where_not_ended : UsesWhereNotEnded
uses_where_not_ended s e o follows goes_on digest =
    let sums = sums_follow s e o follows (uses_of digest) in
    let own = uses_of_touched s e o follows digest ∙ cond-false (touched_has_ended s e) 0 (weight_of_row (uses_of digest) (row_before s e) + uses_to_come s.tasks e.kind digest) goes_on in
    omega (arith, sums, own)
