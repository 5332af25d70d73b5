-- Each entry moves a task to the phase that the entry alone tells.
use Rattle.std.proofs.Common.{◌≡◌, ℕ, ◌+◌, ◌≤◌, ◌==◌, ◌||◌, List, length, refl, ap, sym, ◌∙◌, subst, true, false, Bool, Option, Some, None, IfSome, ◌⊎◌, inl, inr, eqb-true, arith}
use Rattle.std.specs.Prelude.{if◌then◌else◌}
use Rattle.std.specs.Option.{option_map, option_map_or, option_and_then}
use Rattle.std.proofs.lemmas.Bool.{cond_both, eqb-false, ne_eqb, eq-eqb}
use Rattle.std.proofs.lemmas.Option.{same_Some}
use Rattle.pool_laws.specs.Types.{BotDims, Pending, Running, Chunk, Last, TaskRow, BotRow, PoolState, EntryKind, Outcome}
use Rattle.dimensions.specs.Choosing.{when}
use Rattle.swarm_model.specs.declared.entry.EntryKind.TheVariants as kind
use Rattle.swarm_model.specs.declared.entry.Outcome.TheVariants as outcome
use Rattle.swarm_model.specs.Finding.{is_state}
use Rattle.swarm_model.specs.Slices.{admit}
use Rattle.swarm_model.specs.Deadlines.{next_of, last_state}
use Rattle.swarm_model.specs.Effects.{task_after, task_at, no_of_task, expired_slice, killed, lost_run, lost_run_at, canceled, kill_marked, started_run, lengthened, ended_run, fresh_chunk, attempt_of, reported, if_some, run_of_bot}
use Rattle.swarm_model.specs.Soundness.{IsSound, runner}
use Rattle.swarm_model.specs.Verdicts.{Told, told_by, claimant}
use Rattle.pool_laws.proofs.Lists.{Among, number_within}
use Rattle.pool_laws.proofs.Preconditions.{Finds, HasTask, IsOld, IsNewcomer, waits, runs}
use Rattle.pool_laws.proofs.Rows.{task_is, agree, find_bot, row_is, goes_to, claim_waits, update_runs, reported_task, update_task, lost_by, HasRun, run_is}
use Rattle.pool_laws.proofs.Tasks.{last_final, reported_final}
use Rattle.pool_laws.proofs.Tracks.{final_same}
use Rattle.pool_laws.proofs.Phases.{Phase, Waiting, RunBy, Over, told_of, phase_in, phase, next_phase, ended_phase, phase_after_end, turn_true, turn_false, or_false, or_true, over_final, phase_over, wait_pending, IsRunBy, run_is_by, run_by_is, run_waits, run_runner, run_killed, run_longer, run_ended, run_lost}

-- a task that waits

abbrev WaitNext : ℕ → ℕ → EntryKind → Told → TaskRow → Type 0
WaitNext r t k told y = phase y ≡ next_phase r t k (Waiting told)

-- it comes to another slice, or ends
wait_moved : (r : ℕ) (s : PoolState) (m t n : ℕ) (x : TaskRow) → (t == n) ≡ true → x.state ≡ Pending → WaitNext r n (kind.Slice t (next_of s x)) (told_of x) (expired_slice m (next_of s x) x)
wait_moved r s m t n x e p = by_place (admit s x.request.task_slices (x.slice + 1))
  where
    by_place : (o : Option ℕ) → WaitNext r n (kind.Slice t (option_map_or outcome.Slice o (outcome.Ended (last_state x)))) (told_of x) (expired_slice m (option_map_or outcome.Slice o (outcome.Ended (last_state x))) x)
    by_place None = rw e (over_final (last_state x) x.attempt _ (last_final x))
    by_place (Some place) = rw (e, p) refl

-- the slice of another task ran out
wait_stays : (r t n : ℕ) (to : Outcome) (x : TaskRow) → (t == n) ≡ false → phase x ≡ Waiting (told_of x) → WaitNext r n (kind.Slice t to) (told_of x) x
wait_stays r t n (outcome.Slice place) x e p = rw e p
wait_stays r t n (outcome.Ended state) x e p = rw e p

-- a new task is none that is there
new_differs : (s : PoolState) (o : IsSound s) (x : TaskRow) → Among x s.tasks → (t : ℕ) → t ≡ length s.tasks + 1 → (t == x.no) ≡ false
new_differs s o x a t next = ne_eqb t x.no (λ e. let low = (number_within no_of_task 1 s.tasks o.tasks_numbered x a).1 in absurd (omega (arith, low, next, e)))

module _ (s : PoolState) (m : ℕ) (o : IsSound s) (x : TaskRow) (a : Among x s.tasks) (p : x.state ≡ Pending) where
  -- it has no run that could end
  no_run : runs x ≡ true → ⊥
  no_run g = cc (g, ap (λ state. is_state state Running) p)

  waiting : phase x ≡ Waiting (told_of x)
  waiting = ap (λ state. phase_in state x.attempt (told_of x)) p

  wait_after : (k : EntryKind) → Finds s k → WaitNext s.settings.retries x.no k (told_of x) (task_after s m k x)
  wait_after (kind.Slice t to) f =
      cond_both (x.no == t) (expired_slice m to x) x (WaitNext s.settings.retries x.no (kind.Slice t to) (told_of x))
      (λ n. subst (λ (z : Outcome). WaitNext s.settings.retries x.no (kind.Slice t z) (told_of x) (expired_slice m z x)) (sym (goes_to s o t to f x a n)) (wait_moved s.settings.retries s m t x.no x (turn_true x.no t n) p))
      (λ n. wait_stays s.settings.retries t x.no to x (turn_false x.no t n) waiting)
  wait_after (kind.Silence t) f = cond_both (x.no == t) (lost_run s.settings.retries m x) x (WaitNext s.settings.retries x.no (kind.Silence t) (told_of x)) (λ n. absurd (no_run (row_is s o t runs f x a n))) (λ n. waiting)
  wait_after (kind.New t who request state slice from) f = rw (new_differs s o x a t f.next) waiting
  wait_after (kind.Cancel t) f = cond_both (x.no == t) (canceled m x) x (WaitNext s.settings.retries x.no (kind.Cancel t) (told_of x)) (λ n. rw (turn_true x.no t n) refl) (λ n. rw (turn_false x.no t n) waiting)
  wait_after (kind.Kill t) f = cond_both (x.no == t) (kill_marked x) x (WaitNext s.settings.retries x.no (kind.Kill t) (told_of x)) (λ n. absurd (no_run (row_is s o t runs f x a n))) (λ n. waiting)
  wait_after (kind.Handshake b id session dims q) f = lost_by (λ (y : TaskRow). phase y ≡ Waiting (told_of x)) s m o x a waiting (λ g. absurd (no_run g)) b (run_of_bot s b) refl
  wait_after (kind.Claim b t id) f =
      cond_both (x.no == t) (started_run m b id x) x (WaitNext s.settings.retries x.no (kind.Claim b t id) (told_of x)) (λ n. rw (turn_true x.no t n) refl) (λ n. rw (turn_false x.no t n) waiting)
  wait_after (kind.Update b t try_no chunk last) f =
      (let fresh : Option Chunk = fresh_chunk (attempt_of s t) chunk in
      subst (λ (y : TaskRow). phase y ≡ Waiting (told_of x)) (sym (update_task s m b t try_no chunk last x))
      (cond_both (x.no == t) (reported_task m fresh chunk last x) x (λ (y : TaskRow). phase y ≡ Waiting (told_of x)) (λ n. absurd (no_run (row_is s o t runs (update_runs s o b t chunk last f) x a n))) (λ n. waiting)))
  wait_after entry f = waiting

-- a task that runs on bot b

abbrev RunNext : ℕ → ℕ → EntryKind → ℕ → Bool → Told → TaskRow → Type 0
RunNext r t k b q told y = phase y ≡ next_phase r t k (RunBy b q told)

-- a run that an entry neither ends nor asks to stop
stays_run : (x : TaskRow) (b : ℕ) (q : Bool) (told : Told) → phase x ≡ RunBy b q told → phase x ≡ RunBy b (q || false) told
stays_run x b q told p = p ∙ ap (λ k. RunBy b k told) (sym (or_false q))

-- its output may go on
run_grown : (fresh : Option Chunk) (b : ℕ) (q : Bool) (x : TaskRow) → IsRunBy x.state x.attempt b q → IsRunBy (if_some lengthened fresh x).state (if_some lengthened fresh x).attempt b q
run_grown None b q x f = f
run_grown (Some c) b q x f = run_longer c x.state x.attempt b q f

grown_told : (fresh : Option Chunk) (x : TaskRow) → told_of (if_some lengthened fresh x) ≡ told_of x
grown_told None x = refl
grown_told (Some c) x = refl

grown_phase : (fresh : Option Chunk) (b : ℕ) (q : Bool) (x : TaskRow) → IsRunBy x.state x.attempt b q → phase (if_some lengthened fresh x) ≡ RunBy b q (told_of x)
grown_phase fresh b q x f =
    let y : TaskRow = if_some lengthened fresh x in
    run_by_is y.state y.attempt (told_of y) b q (run_grown fresh b q x f) ∙ ap (λ told. RunBy b q told) (grown_told fresh x)

-- a report of it, or of another run
run_reported : (r m t : ℕ) (fresh chunk : Option Chunk) (last : Option Last) (b : ℕ) (q : Bool) (x : TaskRow) → IsRunBy x.state x.attempt b q →
    phase (task_at t (reported_task m fresh chunk last) x)
    ≡ phase_after_end r (told_of x) q (option_and_then (λ (l : Last). when (t == x.no) (Some (reported l))) last) (RunBy b (q || false) (told_of x))
run_reported r m t fresh chunk None b q x f =
    cond_both (x.no == t) (if_some lengthened fresh x) x (λ (y : TaskRow). phase y ≡ RunBy b (q || false) (told_of x))
    (λ n. stays_run (if_some lengthened fresh x) b q (told_of x) (grown_phase fresh b q x f)) (λ n. stays_run x b q (told_of x) (run_by_is x.state x.attempt (told_of x) b q f))
run_reported r m t fresh chunk (Some end) b q x f =
    let y : TaskRow = if_some lengthened fresh x in
    cond_both (x.no == t) (ended_run m chunk end y) x (λ (z : TaskRow). phase z ≡ phase_after_end r (told_of x) q (when (t == x.no) (Some (reported end))) (RunBy b (q || false) (told_of x)))
    (λ n. rw (turn_true x.no t n) (run_ended r y b q (reported end) (ended_run m chunk end y).attempt (told_of y) (told_of x) (reported_final end) (run_grown fresh b q x f)))
    (λ n. rw (turn_false x.no t n) (stays_run x b q (told_of x) (run_by_is x.state x.attempt (told_of x) b q f)))

module _ (s : PoolState) (m : ℕ) (o : IsSound s) (x : TaskRow) (a : Among x s.tasks) (b : ℕ) (q : Bool) (f : IsRunBy x.state x.attempt b q) where
  abbrev told : Told
  told = told_of x

  running : phase x ≡ RunBy b q told
  running = run_by_is x.state x.attempt told b q f

  stays : phase x ≡ RunBy b (q || false) told
  stays = stays_run x b q told running

  -- it waits no more
  no_wait : waits x ≡ true → ⊥
  no_wait w = cc (w, run_waits x b q f)

  -- its end, where it is lost
  lost : phase (lost_run s.settings.retries m x) ≡ ended_phase s.settings.retries told q None
  lost = run_lost s.settings.retries m x b q f (task_is s o x a).tries

  -- its bot is one of the pool, so no newcomer
  no_newcomer : (c : ℕ) → c ≡ b → c ≡ length s.bots + 1 → ⊥
  no_newcomer c e next = by_runner (runner x) (task_is s o x a).has_bot (run_runner x b q f)
    where
      by_runner : (z : Option ℕ) → IfSome z (λ n. n ≤ length s.bots) → z ≡ Some b → ⊥
      by_runner None h g = cc (g)
      by_runner (Some n) h g = let same : n ≡ b = same_Some _ _ g in omega (arith, h, same, e, next)

  -- its bot comes anew
  shaken_own : (c : ℕ) (id : List ℕ) → IsNewcomer s c id ⊎ IsOld s c id → c ≡ b → phase (if_some (lost_run_at s.settings.retries m) (run_of_bot s c) x) ≡ ended_phase s.settings.retries told q None
  shaken_own c id (inl new) e = absurd (no_newcomer c e new.next)
  shaken_own c id (inr old) e =
      subst (λ (z : Option ℕ). phase (if_some (lost_run_at s.settings.retries m) z x) ≡ ended_phase s.settings.retries told q None) (sym its_run)
      (cond_both (x.no == x.no) (lost_run s.settings.retries m x) x (λ (y : TaskRow). phase y ≡ ended_phase s.settings.retries told q None) (λ n. lost) (λ n. absurd (eqb-false x.no x.no n refl)))
    where
      its_run : run_of_bot s c ≡ Some x.no
      its_run =
          ap (option_and_then (λ (z : BotRow). z.task)) (find_bot s o old.bot c old.among old.named)
          ∙ (agree s o old.bot old.among x a).1 (run_runner x b q f ∙ ap (λ n. Some n) (sym (old.named ∙ e)))

  -- another bot does
  shaken_other : (c : ℕ) → (c ≡ b → ⊥) → (run : Option ℕ) → run_of_bot s c ≡ run → phase (if_some (lost_run_at s.settings.retries m) run x) ≡ RunBy b q told
  shaken_other c d None e = running
  shaken_other c d (Some t) e =
      cond_both (x.no == t) (lost_run s.settings.retries m x) x (λ (y : TaskRow). phase y ≡ RunBy b q told)
      (λ n. (let g : HasRun s c t = run_is s c t e in
      let its : runner x ≡ Some g.bot.no = (agree s o g.bot g.among x a).0 (g.task ∙ ap (λ j. Some j) (sym (eqb-true x.no t n))) in
      absurd (d (sym g.named ∙ same_Some _ _ (sym its ∙ run_runner x b q f))))) (λ n. running)

  shaken : (c : ℕ) (id session : List ℕ) (dims : BotDims) (u : List ℕ) → Finds s (kind.Handshake c id session dims u) → (d : Bool) → (c == b) ≡ d →
      phase (if_some (lost_run_at s.settings.retries m) (run_of_bot s c) x) ≡ phase_after_end s.settings.retries told q (when d None) (RunBy b (q || false) told)
  shaken c id session dims u g true e = shaken_own c id g (eqb-true c b e)
  shaken c id session dims u g false e = shaken_other c (eqb-false c b e) (run_of_bot s c) refl ∙ sym running ∙ stays

  run_after : (k : EntryKind) → Finds s k → RunNext s.settings.retries x.no k b q told (task_after s m k x)
  run_after (kind.Slice t to) g =
      cond_both (x.no == t) (expired_slice m to x) x (RunNext s.settings.retries x.no (kind.Slice t to) b q told) (λ n. absurd (no_wait (row_is s o t waits g.waiting x a n))) (λ n. stays)
  run_after (kind.Silence t) g =
      cond_both (x.no == t) (lost_run s.settings.retries m x) x (RunNext s.settings.retries x.no (kind.Silence t) b q told) (λ n. rw (turn_true x.no t n) lost) (λ n. rw (turn_false x.no t n) stays)
  run_after (kind.Cancel t) g =
      cond_both (x.no == t) (canceled m x) x (RunNext s.settings.retries x.no (kind.Cancel t) b q told) (λ n. absurd (no_wait (row_is s o t waits g x a n))) (λ n. stays)
  run_after (kind.Kill t) g =
      cond_both (x.no == t) (kill_marked x) x (RunNext s.settings.retries x.no (kind.Kill t) b q told)
      (λ n. rw (turn_true x.no t n, or_true q) (run_by_is x.state (option_map killed x.attempt) told b true (run_killed x.state x.attempt b q f))) (λ n. rw (turn_false x.no t n) stays)
  run_after (kind.Handshake c id session dims u) g = shaken c id session dims u g (c == b) refl
  run_after (kind.Claim c t id) g =
      cond_both (x.no == t) (started_run m c id x) x (RunNext s.settings.retries x.no (kind.Claim c t id) b q told) (λ n. absurd (no_wait (row_is s o t waits (claim_waits s c t id g) x a n))) (λ n. stays)
  run_after (kind.Update c t try_no chunk last) g =
      subst (λ (y : TaskRow). phase y ≡ phase_after_end s.settings.retries told q (option_and_then (λ (l : Last). when (t == x.no) (Some (reported l))) last) (RunBy b (q || false) told))
      (sym (update_task s m c t try_no chunk last x)) (run_reported s.settings.retries m t (fresh_chunk (attempt_of s t) chunk) chunk last b q x f)
  run_after entry g = stays

  -- an entry on a task that waits is on another one
  other : (t : ℕ) → HasTask s t waits → (t == x.no) ≡ false
  other t g = ne_eqb t x.no (λ e. no_wait (row_is s o t waits g x a (eq-eqb x.no t (sym e))))

  -- no entry tells of its slices or claims it
  pub run_quiet : (k : EntryKind) → Finds s k → (claimant x.no k ≡ None) × ((given : Told) → told_by x.no k given ≡ given)
  run_quiet (kind.Slice t (outcome.Slice place)) g =
      let d : (t == x.no) ≡ false = other t g.waiting in (refl, λ given. ap (λ c. if c then record given { place = place } else given) d)
  run_quiet (kind.New t who request state slice from) g =
      let d : (t == x.no) ≡ false = new_differs s o x a t g.next in (refl, λ given. ap (λ c. if c then record given { slices = request.task_slices; place = slice } else given) d)
  run_quiet (kind.Claim c t id) g =
      let d : (t == x.no) ≡ false = other t (claim_waits s c t id g) in (ap (λ z. when z c) d, λ given. ap (λ z. if z then record given { claimed = true } else given) d)
  run_quiet k g = (refl, λ given. refl)

-- each task
pub phase_after : (s : PoolState) (m : ℕ) (k : EntryKind) → IsSound s → Finds s k → (x : TaskRow) → Among x s.tasks → phase (task_after s m k x) ≡ next_phase s.settings.retries x.no k (phase x)
phase_after s m k o f x a = by_phase (phase x) refl
  where
    by_phase : (p : Phase) → phase x ≡ p → phase (task_after s m k x) ≡ next_phase s.settings.retries x.no k p
    by_phase (Waiting was) e =
        (let g = wait_pending x.state x.attempt (told_of x) was e in
        subst (λ (told : Told). phase (task_after s m k x) ≡ next_phase s.settings.retries x.no k (Waiting told)) g.1 (wait_after s m o x a g.0 k f))
    by_phase (RunBy b q was) e =
        (let g = run_is_by x.state x.attempt (told_of x) was b q e in
        subst (λ (told : Told). phase (task_after s m k x) ≡ next_phase s.settings.retries x.no k (RunBy b q told)) g.1 (run_after s m o x a b q g.0 k f))
    by_phase (Over state) e = ap phase (final_same s m k o f x a (phase_over x.state x.attempt (told_of x) x.ended state (task_is s o x a).state e)) ∙ e
