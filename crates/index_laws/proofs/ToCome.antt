-- Where the touched task waits after an entry, the set of its queue follows from the rows before.
use Rattle.std.proofs.Common.{◌≡◌, ℕ, ◌+◌, ◌==◌, arith, Bool, true, false, cond, map, refl, sym, ap, ◌∙◌, subst, Option, Some, None, IfSome, eqb-true}
use Rattle.std.specs.Option.{option_map, option_map_or, option_and_then}
use Rattle.std.proofs.lemmas.Bool.{eq-eqb, cond-true}
use Rattle.std.proofs.lemmas.Option.{same_Some}
use Rattle.index_laws.specs.Types.{Slice, TaskState, Pending, Running, BotDied, Attempt, Chunk, Last, Retried, TaskRow, PoolState, EntryKind, QueueSet, Waiting}
use Rattle.swarm_model.specs.declared.entry.EntryKind.TheVariants as kind
use Rattle.swarm_model.specs.declared.entry.Outcome.TheVariants as outcome
use Rattle.swarm_model.specs.Finding.{is_state, is_task, task_of}
use Rattle.swarm_model.specs.Slices.{admit, current_slice, kept_from}
use Rattle.swarm_model.specs.Deadlines.{next_of, last_state}
use Rattle.swarm_model.specs.Effects.{no_of_task, task_after, added_tasks, new_row, expired_slice, is_tried_again, retried_from, retried_run, died_run, lost_run, lost_run_at, canceled, kill_marked, started_run, ended_run, lengthened, fresh_chunk, attempt_of, end_state, if_some, run_of_bot, after}
use Rattle.swarm_model.specs.Soundness.{IsSound}
use Rattle.pool_laws.proofs.Lists.{Among, Found, find_is, each_append, each_map, each_one, number_within}
use Rattle.pool_laws.proofs.Preconditions.{Finds, waits, runs}
use Rattle.pool_laws.proofs.EntryPreconditions.{finds}
use Rattle.pool_laws.proofs.Rows.{agree, find_task, row_is, goes_to, lost_is, reported_task, update_task, update_runs, has_runner, HasRun, run_is}
use Rattle.pool_laws.proofs.Tasks.{end_final, finished_final, last_final, not_pending}
use Rattle.pool_laws.proofs.Numbers.{task_no}
use Rattle.index_laws.specs.Touched.{touched_task}
use Rattle.index_laws.specs.TaskQueues.{set_of, waiting_of, place_in, touched_place}
use Rattle.index_laws.specs.SetToCome.{set_at, set_moved, set_again, set_if_lost, set_of_lost, set_to_come, IsReadyFor, PlaceIsReady}

abbrev Place : Type 0
Place = Waiting × QueueSet

-- a task that has a place has the set of its slice
slice_set : (y : TaskRow) (p : Place) → waiting_of y ≡ Some p → set_at y.request.task_slices y.slice (kept_from y) ≡ Some p.1
slice_set y p e = by_test (waits y) e
  where
    by_slice : (r : Option Slice) → option_map (place_in y) r ≡ Some p → option_map (set_of (kept_from y)) r ≡ Some p.1
    by_slice None h = absurd (cc (h))
    by_slice (Some slice) h = ap (λ (q : Place). Some q.1) (same_Some _ _ h)

    by_test : (c : Bool) → cond c (option_map (place_in y) (current_slice y)) None ≡ Some p → option_map (set_of (kept_from y)) (current_slice y) ≡ Some p.1
    by_test true h = by_slice (current_slice y) h
    by_test false h = absurd (cc (h))

-- a task that does not wait has no place
no_place : (y : TaskRow) (p : Place) → waits y ≡ false → waiting_of y ≡ Some p → ⊥
no_place y p w e = let none : None ≡ Some p = subst (λ (c : Bool). cond c (option_map (place_in y) (current_slice y)) None ≡ Some p) w e in cc (none)

-- a change at a number changes the row that has it
pub own : (t : ℕ) (x y : TaskRow) → x.no ≡ t → cond (x.no == t) y x ≡ y
own t x y e = cond-true (x.no == t) y x (eq-eqb x.no t e)

-- a task that runs does not wait
runs_not : (state : TaskState) → is_state state Running ≡ true → is_state state Pending ≡ false
runs_not Pending e = absurd (cc (e))
runs_not state e = refl

module _ (s : PoolState) (o : IsSound s) where
  -- a task that ends as its slice expires does not wait
  ends_so : (x : TaskRow) (state : TaskState) → outcome.Ended state ≡ next_of s x → is_state state Pending ≡ false
  ends_so x state e = by_place (admit s x.request.task_slices (x.slice + 1)) e
    where
      by_place : (r : Option ℕ) → outcome.Ended state ≡ option_map_or outcome.Slice r (outcome.Ended (last_state x)) → is_state state Pending ≡ false
      by_place None h = subst (λ (z : TaskState). is_state z Pending ≡ false) (sym (unwrap h)) (not_pending (last_state x) (last_final x))
        where
          unwrap : outcome.Ended state ≡ outcome.Ended (last_state x) → state ≡ last_state x
          unwrap g = cc (g)
      by_place (Some place) h = absurd (cc (h))

  -- the task that a bot runs does not wait
  run_waits_not : (b : ℕ) (x : TaskRow) → Among x s.tasks → run_of_bot s b ≡ Some x.no → waits x ≡ false
  run_waits_not b x a e =
      let h : HasRun s b x.no = run_is s b x.no e in
      runs_not x.state (has_runner x h.bot.no ((agree s o h.bot h.among x a).0 h.task))

  -- a task whose run ends for good does not wait
  died_waits_not : (m : ℕ) (x : TaskRow) → waits (died_run m x) ≡ false
  died_waits_not m x = not_pending (end_state x.attempt BotDied) (end_final x.attempt BotDied refl)

  -- and one whose run is tried again waits at its slice, kept from the bot of the run
  lost_to_come : (m : ℕ) (x : TaskRow) (p : Place) → waiting_of (lost_run s.settings.retries m x) ≡ Some p → set_if_lost s.settings.retries x ≡ Some p.1
  lost_to_come m x p =
      lost_is (λ (y : TaskRow). waiting_of y ≡ Some p → set_if_lost s.settings.retries x ≡ Some p.1) s.settings.retries m x
      (λ t e. cond-true (is_tried_again s.settings.retries x) (set_again x) None t ∙ ap (set_at x.request.task_slices x.slice) (kept_again x.attempt) ∙ slice_set (retried_run m x) p e)
      (λ t e. absurd (no_place (died_run m x) p (died_waits_not m x) e))
    where
      kept_again : (r : Option Attempt) → option_map (λ (a : Attempt). a.bot) r ≡ option_map (λ (lost : Retried). lost.attempt.bot) (option_map (retried_from m x.slice) r)
      kept_again None = refl
      kept_again (Some a) = refl

  -- by the number of the task
  number_to_come : (m t : ℕ) (x : TaskRow) → Among x s.tasks → x.no ≡ t → (p : Place) → waiting_of (cond (x.no == t) (lost_run s.settings.retries m x) x) ≡ Some p → set_of_lost s (Some t) ≡ Some p.1
  number_to_come m t x a is p e =
      ap (option_and_then (set_if_lost s.settings.retries)) (find_task s o x t a is)
      ∙ lost_to_come m x p (ap waiting_of (sym (own t x (lost_run s.settings.retries m x) is)) ∙ e)

  -- nor does a task whose bot reports
  report_waits_not : (m : ℕ) (fresh chunk : Option Chunk) (last : Option Last) (x : TaskRow) → runs x ≡ true → waits (reported_task m fresh chunk last x) ≡ false
  report_waits_not m None chunk None x r = runs_not x.state r
  report_waits_not m (Some c) chunk None x r = runs_not x.state r
  report_waits_not m fresh chunk (Some last) x r = (let y : TaskRow = if_some lengthened fresh x in not_pending (ended_run m chunk last y).state (finished_final m chunk last y))

  -- the place of a row that was there
  row_to_come : (m : ℕ) (k : EntryKind) → Finds s k → (x : TaskRow) → Among x s.tasks → touched_task s k ≡ Some x.no → (p : Place) → waiting_of (task_after s m k x) ≡ Some p → set_to_come s k ≡ Some p.1
  row_to_come m (kind.Slice t (outcome.Slice place)) f x a u p e =
      let is : x.no ≡ t = sym (same_Some _ _ u) in
      let expired : TaskRow = expired_slice m (outcome.Slice place) x in
      ap (option_and_then (set_moved place)) (find_task s o x t a is)
      ∙ slice_set expired p (ap waiting_of (sym (own t x expired is)) ∙ e)
  row_to_come m (kind.Slice t (outcome.Ended state)) f x a u p e =
      let is : x.no ≡ t = sym (same_Some _ _ u) in
      let ended : TaskRow = expired_slice m (outcome.Ended state) x in
      absurd (no_place ended p (ends_so x state (goes_to s o t (outcome.Ended state) f x a (eq-eqb x.no t is))) (ap waiting_of (sym (own t x ended is)) ∙ e))
  row_to_come m (kind.Silence t) f x a u p e = number_to_come m t x a (sym (same_Some _ _ u)) p e
  row_to_come m (kind.New t who request state slice from) f x a u p e =
      absurd (let low = (number_within no_of_task 1 s.tasks o.tasks_numbered x a).1 in let next = f.next in let is : t ≡ x.no = same_Some _ _ u in omega (arith, low, next, is))
  row_to_come m (kind.Cancel t) f x a u p e =
      let is : x.no ≡ t = sym (same_Some _ _ u) in
      absurd (let none : None ≡ Some p = subst (λ (c : Bool). waiting_of (cond c (canceled m x) x) ≡ Some p) (eq-eqb x.no t is) e in cc (none))
  row_to_come m (kind.Kill t) f x a u p e =
      let is : x.no ≡ t = sym (same_Some _ _ u) in
      absurd (no_place (kill_marked x) p (runs_not x.state (row_is s o t runs f x a (eq-eqb x.no t is))) (ap waiting_of (sym (own t x (kill_marked x) is)) ∙ e))
  row_to_come m (kind.Handshake b id session dims q) f x a u p e = by_run (run_of_bot s b) u e
    where
      by_run : (r : Option ℕ) → r ≡ Some x.no → waiting_of (if_some (lost_run_at s.settings.retries m) r x) ≡ Some p → set_of_lost s r ≡ Some p.1
      by_run None v g = absurd (cc (v))
      by_run (Some t) v g = number_to_come m t x a (sym (same_Some _ _ v)) p g
  row_to_come m (kind.Poll b dims q hint) f x a u p e = absurd (no_place x p (run_waits_not b x a u) e)
  row_to_come m (kind.Contact b) f x a u p e = absurd (no_place x p (run_waits_not b x a u) e)
  row_to_come m (kind.Event b w text) f x a u p e = absurd (no_place x p (run_waits_not b x a u) e)
  row_to_come m (kind.Claim b t id) f x a u p e =
      let is : x.no ≡ t = sym (same_Some _ _ u) in
      absurd (no_place (started_run m b id x) p refl (ap waiting_of (sym (own t x (started_run m b id x) is)) ∙ e))
  row_to_come m (kind.Update b t try_no chunk last) f x a u p e =
      let is : x.no ≡ t = sym (same_Some _ _ u) in
      let fresh : Option Chunk = fresh_chunk (attempt_of s t) chunk in
      let y : TaskRow = reported_task m fresh chunk last x in
      let runs_it : runs x ≡ true = row_is s o t runs (update_runs s o b t chunk last f) x a (eq-eqb x.no t is) in
      absurd (no_place y p (report_waits_not m fresh chunk last x runs_it) (ap waiting_of (sym (update_task s m b t try_no chunk last x ∙ own t x y is)) ∙ e))
  row_to_come m k f x a u p e = absurd (cc (u))

  -- and that of a row that is added
  new_to_come : (m : ℕ) (k : EntryKind) → (y : TaskRow) → Among y (added_tasks m k) → (p : Place) → waiting_of y ≡ Some p → set_to_come s k ≡ Some p.1
  new_to_come m (kind.New t who request state slice from) y a p e =
      each_one (λ (z : TaskRow). waiting_of z ≡ Some p → set_at request.task_slices slice None ≡ Some p.1) (new_row m t who request state slice from) (slice_set (new_row m t who request state slice from) p) y a e
  new_to_come m k y a p e = elim a [ ]

-- so a queue that was made ready for the set to come serves
pub place_ready : PlaceIsReady
place_ready s e o follows ready is = by_number (touched_task s e.kind) refl
  where
    served : (p : Place) → set_to_come s e.kind ≡ Some p.1 → ready ≡ Some p.1
    served p h = subst (λ (r : Option QueueSet). IsReadyFor ready r) h is

    of_row : (n : ℕ) → touched_task s e.kind ≡ Some n → (y : TaskRow) → Among y (after s e).tasks → y.no ≡ n → (p : Place) → waiting_of y ≡ Some p → ready ≡ Some p.1
    of_row n u =
        each_append (λ (y : TaskRow). y.no ≡ n → (p : Place) → waiting_of y ≡ Some p → ready ≡ Some p.1) (map (task_after s e.moment e.kind) s.tasks) (added_tasks e.moment e.kind)
        (each_map (λ (y : TaskRow). y.no ≡ n → (p : Place) → waiting_of y ≡ Some p → ready ≡ Some p.1) (task_after s e.moment e.kind) s.tasks (λ x a q p h.
        served p (row_to_come s o e.moment e.kind (finds s e follows) x a (u ∙ ap (λ (j : ℕ). Some j) (sym q ∙ task_no s e.moment e.kind o (finds s e follows) x a)) p h)))
        (λ y a q p h. served p (new_to_come s o e.moment e.kind y a p h))

    by_place : (n : ℕ) → touched_task s e.kind ≡ Some n → (y : TaskRow) → Among y (after s e).tasks → y.no ≡ n → (r : Option Place) → waiting_of y ≡ r → IfSome r (λ place. ready ≡ Some place.1)
    by_place n u y a q None h = tt
    by_place n u y a q (Some p) h = of_row n u y a q p h

    by_row : (n : ℕ) → touched_task s e.kind ≡ Some n → (r : Option TaskRow) → task_of (after s e) n ≡ r → IfSome (option_and_then waiting_of r) (λ place. ready ≡ Some place.1)
    by_row n u None h = tt
    by_row n u (Some y) h = (let found : Found (is_task n) (after s e).tasks y = find_is (is_task n) (after s e).tasks y h in by_place n u y found.among (eqb-true y.no n found.passes) (waiting_of y) refl)

    by_number : (r : Option ℕ) → touched_task s e.kind ≡ r → IfSome (touched_place (after s e) r) (λ place. ready ≡ Some place.1)
    by_number None u = tt
    by_number (Some n) u = by_row n u (task_of (after s e) n) refl
