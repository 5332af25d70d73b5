-- A bot's row names its run, before and after each entry.
use Rattle.std.proofs.Common.{◌≡◌, ◌↔◌, ℕ, ◌≤◌, ◌==◌, List, [], ◌∷◌, length, refl, ap, sym, ◌∙◌, subst, cond, true, false, Bool, Option, Some, None, IfSome, ◌⊎◌, inl, inr, eqb-true, arith}
use Rattle.std.specs.List.{All}
use Rattle.std.specs.Option.{option_map, option_map_or, option_and_then}
use Rattle.std.proofs.lemmas.Bool.{cond_both, eq-eqb, eqb-false}
use Rattle.std.proofs.lemmas.Option.{IfSome_then, same_Some}
use Rattle.pool_laws.specs.Types.{BotDims, Attempt, Chunk, Last, TaskRow, BotRow, PoolState, Entry, EntryKind, EventKind, Outcome}
use Rattle.swarm_model.specs.declared.entry.EntryKind.TheVariants as kind
use Rattle.swarm_model.specs.declared.entry.EventKind.TheVariants as event
use Rattle.swarm_model.specs.declared.entry.Outcome.TheVariants as outcome
use Rattle.swarm_model.specs.Finding.{task_of, bot_of}
use Rattle.swarm_model.specs.Deadlines.{next_of}
use Rattle.swarm_model.specs.Answers.{run_on}
use Rattle.swarm_model.specs.Effects.{task_after, added_tasks, bot_after, added_bots, new_row, expired_slice, lost_run, lost_run_at, canceled, kill_marked, lengthened, fresh_chunk, attempt_of, task_at, started_run, if_some, run_of_bot, runs_task, bot_at, silent_bot, dead_bot, session_row, polled, assigned_bot, heard, event_effect, terminated, after}
use Rattle.swarm_model.specs.History.{MayFollow}
use Rattle.swarm_model.specs.Soundness.{IsSound, Agree, runner}
use Rattle.pool_laws.proofs.Lists.{Among, each_one, find_none}
use Rattle.pool_laws.proofs.Preconditions.{Finds, FindsUpdate, IsOld, IsNewcomer, waits}
use Rattle.pool_laws.proofs.EntryPreconditions.{finds}
use Rattle.pool_laws.proofs.Rows.{task_is, bot_is, agree, one_task, find_bot, relieved, reported_task, reporting_bot, update_task, update_bot, goes_on_runs, row_is, goes_to, claim_waits, HasRun, run_is, all_tasks, all_bots, lost_no}
use Rattle.pool_laws.proofs.Tasks.{runner_waits, runner_lost, runner_marked, runner_longer, runner_finished, runner_moved, added_idle}

-- the fact on plain values: a bot's task, a task's number, the task's runner, the bot's number
abbrev Same : Option ℕ → ℕ → Option ℕ → ℕ → Type 0
Same bt tn r bn = (bt ≡ Some tn) ↔ (r ≡ Some bn)

-- neither names the other
neither : (tn bn : ℕ) → Same None tn None bn
neither tn bn = (λ e. absurd (cc (e)), λ e. absurd (cc (e)))

-- bot b leaves task t
left : (b t bn tn : ℕ) (bt r : Option ℕ) (c d : Bool) → (bn == b) ≡ c → (tn == t) ≡ d → Same bt tn r bn → (bn ≡ b → bt ≡ Some t) → (tn ≡ t → r ≡ Some b) →
    Same (cond c None bt) tn (cond d None r) bn
left b t bn tn bt r true true p q h f g = neither tn bn
left b t bn tn bt r true false p q h f g =
    (λ e. absurd (cc (e)), λ e. let x : bt ≡ Some tn = h.1 e in let y : bt ≡ Some t = f (eqb-true bn b p) in absurd (eqb-false tn t q (same_Some _ _ (sym x ∙ y))))
left b t bn tn bt r false true p q h f g =
    (λ e. (let x : r ≡ Some bn = h.0 e in let y : r ≡ Some b = g (eqb-true tn t q) in absurd (eqb-false bn b p (same_Some _ _ (sym x ∙ y)))), λ e. absurd (cc (e)))
left b t bn tn bt r false false p q h f g = h

-- bot b, which runs nothing, begins task t, which nobody runs
begins : (b t bn tn : ℕ) (bt r : Option ℕ) (c d : Bool) → (bn == b) ≡ c → (tn == t) ≡ d → Same bt tn r bn → (r ≡ Some b → ⊥) → (tn ≡ t → r ≡ None) →
    Same (cond c (Some t) bt) tn (cond d (Some b) r) bn
begins b t bn tn bt r true true p q h f g = (λ e. cc (eqb-true bn b p), λ e. cc (eqb-true tn t q))
begins b t bn tn bt r true false p q h f g =
    (λ e. absurd (eqb-false tn t q (sym (same_Some _ _ e))), λ e. absurd (f (cc (e, eqb-true bn b p))))
begins b t bn tn bt r false true p q h f g =
    (λ e. (let x : r ≡ Some bn = h.0 e in let y : r ≡ None = g (eqb-true tn t q) in absurd (cc (x, y))), λ e. absurd (eqb-false bn b p (sym (same_Some _ _ e))))
begins b t bn tn bt r false false p q h f g = h

-- whoever runs task t leaves it
silences : (t bn tn : ℕ) (bt r : Option ℕ) (c d : Bool) → option_map_or (λ n. n == t) bt false ≡ c → (tn == t) ≡ d → Same bt tn r bn → Same (cond c None bt) tn (cond d None r) bn
silences t bn tn bt r true true p q h = neither tn bn
silences t bn tn None r true false p q h = absurd (cc (p))
silences t bn tn (Some n) r true false p q h =
    (λ e. absurd (cc (e)), λ e. let x : n ≡ tn = same_Some _ _ (h.1 e) in absurd (eqb-false tn t q (sym x ∙ eqb-true n t p)))
silences t bn tn None r false true p q h = neither tn bn
silences t bn tn (Some n) r false true p q h =
    (λ e. absurd (eqb-false n t p (same_Some _ _ e ∙ eqb-true tn t q)), λ e. absurd (cc (e)))
silences t bn tn bt r false false p q h = h

-- bot b has nothing
rests : (b bn tn : ℕ) (bt r : Option ℕ) (c : Bool) → (bn == b) ≡ c → Same bt tn r bn → (bn ≡ b → bt ≡ None) → Same (cond c None bt) tn r bn
rests b bn tn bt r true p h f = (λ e. absurd (cc (e)), λ e. let x : bt ≡ Some tn = h.1 e in let y : bt ≡ None = f (eqb-true bn b p) in absurd (cc (x, y)))
rests b bn tn bt r false p h f = h

-- the fact on rows whose four parts are known
agree_by : (bot : BotRow) (task : TaskRow) (bt r : Option ℕ) (tn bn : ℕ) → bot.task ≡ bt → task.no ≡ tn → runner task ≡ r → bot.no ≡ bn → Same bt tn r bn → Agree bot task
agree_by bot task bt r tn bn p q u v h = rw (p, q, u, v) h

-- the runner of a task that changes at a number
runner_at : (t : ℕ) (f : TaskRow → TaskRow) (y : TaskRow) → runner (task_at t f y) ≡ cond (y.no == t) (runner (f y)) (runner y)
runner_at t f y = by_test (y.no == t)
  where
    by_test : (c : Bool) → runner (cond c (f y) y) ≡ cond c (runner (f y)) (runner y)
    by_test true = refl
    by_test false = refl

-- its number
task_no_at : (t : ℕ) (f : TaskRow → TaskRow) (y : TaskRow) → (f y).no ≡ y.no → (task_at t f y).no ≡ y.no
task_no_at t f y e = cond_both (y.no == t) (f y) y (λ (z : TaskRow). z.no ≡ y.no) (λ n. e) (λ n. refl)

-- the run of a bot that changes at a number
task_of_at : (b : ℕ) (f : BotRow → BotRow) (x : BotRow) → (bot_at b f x).task ≡ cond (x.no == b) (f x).task x.task
task_of_at b f x = by_test (x.no == b)
  where
    by_test : (c : Bool) → (cond c (f x) x).task ≡ cond c (f x).task x.task
    by_test true = refl
    by_test false = refl

-- or that falls silent
silent_bot_task : (c : Bool) (x : BotRow) → (cond c (silent_bot x) x).task ≡ cond c None x.task
silent_bot_task true x = refl
silent_bot_task false x = refl

-- the number of a task of which a report comes
reported_no : (m : ℕ) (fresh chunk : Option Chunk) (last : Option Last) (y : TaskRow) → (reported_task m fresh chunk last y).no ≡ y.no
reported_no m None chunk None y = refl
reported_no m (Some c) chunk None y = refl
reported_no m None chunk (Some last) y = refl
reported_no m (Some c) chunk (Some last) y = refl

-- its runner, where its output may go on
grown_runner : (fresh : Option Chunk) (y : TaskRow) → runner (if_some lengthened fresh y) ≡ runner y
grown_runner None y = refl
grown_runner (Some c) y = runner_longer c y

-- a number below a bound
within : (r : Option ℕ) (n k : ℕ) → IfSome r (λ t. t ≤ n) → r ≡ Some k → k ≤ n
within None n k h e = absurd (cc (e))
within (Some t) n k h e = let same : t ≡ k = same_Some _ _ e in omega (arith, h, same)

-- an event leaves the run
event_effect_agree : (m : ℕ) (e : EventKind) (text : List ℕ) (x : BotRow) (y : TaskRow) → Agree x y → Agree (event_effect m e text x) y
event_effect_agree m event.Ping text x y h = h
event_effect_agree m event.Quarantine text x y h = h
event_effect_agree m event.Unquarantine text x y h = h

-- a bot with no run that its row names runs nothing
no_run : (s : PoolState) (r : Option ℕ) (task : TaskRow) → Among task s.tasks → r ≡ Some task.no → option_and_then (task_of s) r ≡ None → ⊥
no_run s None task a e h = absurd (cc (e))
no_run s (Some n) task a e h = eqb-false task.no n (find_none _ s.tasks h task a) (sym (same_Some _ _ e))

module _ (s : PoolState) (o : IsSound s) where
  -- so no task runs on it
  pub idle_bot : (bot : BotRow) → Among bot s.bots → run_on s bot ≡ None → (task : TaskRow) → Among task s.tasks → runner task ≡ Some bot.no → ⊥
  idle_bot bot a idle task c e = no_run s bot.task task c ((agree s o bot a task c).1 e) idle

  -- a task that waits runs nowhere, and moves so
  moved_agree : (m : ℕ) (x : BotRow) (y : TaskRow) → waits y ≡ true → Agree x y → Agree x (expired_slice m (next_of s y) y)
  moved_agree m x y w h =
      agree_by x (expired_slice m (next_of s y) y) x.task None y.no x.no refl (no_moved (next_of s y)) (runner_moved s m y w) refl
      (subst (λ (r : Option ℕ). Same x.task y.no r x.no) (runner_waits y.state y.attempt w) h)
    where
      no_moved : (to : Outcome) → (expired_slice m to y).no ≡ y.no
      no_moved (outcome.Slice place) = refl
      no_moved (outcome.Ended state) = refl

  shaken_agree : (m b : ℕ) (id session : List ℕ) (dims : BotDims) (q : List ℕ) (x : BotRow) → Among x s.bots → (y : TaskRow) → Among y s.tasks → (r : Option ℕ) → run_of_bot s b ≡ r →
      Agree (bot_at b (λ old. session_row m b id session dims q) x) (if_some (lost_run_at s.settings.retries m) r y)
  shaken_agree m b id session dims q x a y c r e = by_run r e
    where
      shaken : BotRow → BotRow
      shaken old = session_row m b id session dims q

      its_run : x.no ≡ b → x.task ≡ run_of_bot s b
      its_run p = sym (ap (option_and_then (λ (z : BotRow). z.task)) (find_bot s o x b a p))

      no_is : (bot_at b shaken x).no ≡ x.no
      no_is = cond_both (x.no == b) (shaken x) x (λ (z : BotRow). z.no ≡ x.no) (λ n. sym (eqb-true x.no b n)) (λ n. refl)

      by_run : (run : Option ℕ) → run_of_bot s b ≡ run → Agree (bot_at b shaken x) (if_some (lost_run_at s.settings.retries m) run y)
      by_run None g =
          agree_by (bot_at b shaken x) y (cond (x.no == b) None x.task) (runner y) y.no x.no (task_of_at b shaken x) refl refl no_is
          (rests b x.no y.no x.task (runner y) (x.no == b) refl (agree s o x a y c) (λ p. its_run p ∙ g))
      by_run (Some t) g =
          (let f : HasRun s b t = run_is s b t g in
          agree_by (bot_at b shaken x) (task_at t (lost_run s.settings.retries m) y) (cond (x.no == b) None x.task) (cond (y.no == t) None (runner y)) y.no x.no (task_of_at b shaken x) (task_no_at t (lost_run s.settings.retries m) y (lost_no s.settings.retries m y))
          (runner_at t (lost_run s.settings.retries m) y ∙ ap (λ z. cond (y.no == t) z (runner y)) (runner_lost s.settings.retries m y)) no_is
          (left b t x.no y.no x.task (runner y) (x.no == b) (y.no == t) refl refl (agree s o x a y c) (λ p. its_run p ∙ g)
          (λ p. (agree s o f.bot f.among y c).0 (f.task ∙ ap (λ n. Some n) (sym p)) ∙ ap (λ n. Some n) f.named)))

  -- and ends so, where it is canceled
  canceled_agree : (m : ℕ) (x : BotRow) (y : TaskRow) → waits y ≡ true → Agree x y → Agree x (canceled m y)
  canceled_agree m x y w h =
      agree_by x (canceled m y) x.task None y.no x.no refl refl refl refl (subst (λ (r : Option ℕ). Same x.task y.no r x.no) (runner_waits y.state y.attempt w) h)

  -- a task of which a report comes runs on the bot that sends it
  its_runner : (b t : ℕ) (chunk : Option Chunk) (last : Option Last) (f : FindsUpdate s b t chunk last) → runner f.task ≡ Some b
  its_runner b t chunk last f =
      ap (λ (c : Bool). cond c (option_map (λ (a : Attempt). a.bot) f.task.attempt) None) (goes_on_runs s o b t chunk last f)
      ∙ ap (option_map (λ (a : Attempt). a.bot)) f.attempted ∙ ap (λ n. Some n) f.by_bot

  -- a report of it
  reported_agree : (m b t : ℕ) (fresh chunk : Option Chunk) (last : Option Last) → FindsUpdate s b t chunk last → (x : BotRow) → Among x s.bots → (y : TaskRow) → Among y s.tasks → (end : Option Last) →
      Agree (bot_at b (reporting_bot m end) x) (task_at t (reported_task m fresh chunk end) y)
  reported_agree m b t fresh chunk last f x a y c None =
      agree_by (bot_at b (heard m) x) (task_at t (reported_task m fresh chunk None) y) x.task (runner y) y.no x.no
      (cond_both (x.no == b) (heard m x) x (λ (z : BotRow). z.task ≡ x.task) (λ n. refl) (λ n. refl))
      (task_no_at t (reported_task m fresh chunk None) y (reported_no m fresh chunk None y))
      (cond_both (y.no == t) (reported_task m fresh chunk None y) y (λ (z : TaskRow). runner z ≡ runner y) (λ n. grown_runner fresh y) (λ n. refl))
      (cond_both (x.no == b) (heard m x) x (λ (z : BotRow). z.no ≡ x.no) (λ n. refl) (λ n. refl))
      (agree s o x a y c)
  reported_agree m b t fresh chunk last f x a y c (Some end) =
      agree_by (bot_at b (relieved m) x) (task_at t (reported_task m fresh chunk (Some end)) y) (cond (x.no == b) None x.task) (cond (y.no == t) None (runner y)) y.no x.no (task_of_at b (relieved m) x)
      (task_no_at t (reported_task m fresh chunk (Some end)) y (reported_no m fresh chunk (Some end) y))
      (runner_at t (reported_task m fresh chunk (Some end)) y ∙ ap (λ z. cond (y.no == t) z (runner y)) (runner_finished m chunk end (if_some lengthened fresh y)))
      (cond_both (x.no == b) (relieved m x) x (λ (z : BotRow). z.no ≡ x.no) (λ n. refl) (λ n. refl))
      (left b t x.no y.no x.task (runner y) (x.no == b) (y.no == t) refl refl (agree s o x a y c) its_task its_bot)
    where
      its_task : x.no ≡ b → x.task ≡ Some t
      its_task p =
          (agree s o x a f.task f.among).1 (its_runner b t chunk last f ∙ ap (λ n. Some n) (sym p)) ∙ ap (λ n. Some n) f.named

      its_bot : y.no ≡ t → runner y ≡ Some b
      its_bot p = ap runner (one_task s o y f.task c f.among (p ∙ sym f.named)) ∙ its_runner b t chunk last f

  update_agree : (m b t try_no : ℕ) (chunk : Option Chunk) (last : Option Last) → FindsUpdate s b t chunk last → (x : BotRow) → Among x s.bots → (y : TaskRow) → Among y s.tasks →
      Agree (bot_after m (kind.Update b t try_no chunk last) x) (task_after s m (kind.Update b t try_no chunk last) y)
  update_agree m b t try_no chunk last f x a y c =
      rw (update_task s m b t try_no chunk last y, update_bot m b t try_no chunk last x)
      (reported_agree m b t (fresh_chunk (attempt_of s t) chunk) chunk last f x a y c last)

  -- rows that were there
  row_agree : (m : ℕ) (k : EntryKind) → Finds s k → (x : BotRow) → Among x s.bots → (y : TaskRow) → Among y s.tasks → Agree (bot_after m k x) (task_after s m k y)
  row_agree m (kind.Slice t to) f x a y c =
      cond_both (y.no == t) (expired_slice m to y) y (Agree x)
      (λ n. subst (λ (z : Outcome). Agree x (expired_slice m z y)) (sym (goes_to s o t to f y c n)) (moved_agree m x y (row_is s o t waits f.waiting y c n) (agree s o x a y c)))
      (λ n. agree s o x a y c)
  row_agree m (kind.Silence t) f x a y c =
      agree_by (cond (runs_task t x) (silent_bot x) x) (task_at t (lost_run s.settings.retries m) y) (cond (runs_task t x) None x.task) (cond (y.no == t) None (runner y)) y.no x.no (silent_bot_task (runs_task t x) x)
      (task_no_at t (lost_run s.settings.retries m) y (lost_no s.settings.retries m y)) (runner_at t (lost_run s.settings.retries m) y ∙ ap (λ z. cond (y.no == t) z (runner y)) (runner_lost s.settings.retries m y)) (cond_both (runs_task t x) (silent_bot x) x (λ (z : BotRow). z.no ≡ x.no) (λ n. refl) (λ n. refl))
      (silences t x.no y.no x.task (runner y) (runs_task t x) (y.no == t) refl refl (agree s o x a y c))
  row_agree m (kind.Dead b) f x a y c = cond_both (x.no == b) (dead_bot x) x (λ (z : BotRow). Agree z y) (λ n. agree s o x a y c) (λ n. agree s o x a y c)
  row_agree m (kind.Cancel t) f x a y c =
      cond_both (y.no == t) (canceled m y) y (Agree x) (λ n. canceled_agree m x y (row_is s o t waits f y c n) (agree s o x a y c)) (λ n. agree s o x a y c)
  row_agree m (kind.Kill t) f x a y c =
      cond_both (y.no == t) (kill_marked y) y (Agree x)
      (λ n. agree_by x (kill_marked y) x.task (runner y) y.no x.no refl refl (runner_marked y) refl (agree s o x a y c)) (λ n. agree s o x a y c)
  row_agree m (kind.Handshake b id session dims q) f x a y c = shaken_agree m b id session dims q x a y c (run_of_bot s b) refl
  row_agree m (kind.Poll b dims q hint) f x a y c = cond_both (x.no == b) (polled m dims q hint x) x (λ (z : BotRow). Agree z y) (λ n. agree s o x a y c) (λ n. agree s o x a y c)
  row_agree m (kind.Claim b t id) f x a y c =
      agree_by (bot_at b (assigned_bot m t) x) (task_at t (started_run m b id) y) (cond (x.no == b) (Some t) x.task) (cond (y.no == t) (Some b) (runner y)) y.no x.no (task_of_at b (assigned_bot m t) x)
      (task_no_at t (started_run m b id) y refl) (runner_at t (started_run m b id) y) (cond_both (x.no == b) (assigned_bot m t x) x (λ (z : BotRow). z.no ≡ x.no) (λ n. refl) (λ n. refl))
      (begins b t x.no y.no x.task (runner y) (x.no == b) (y.no == t) refl refl (agree s o x a y c)
      (λ e. idle_bot f.bot f.among f.idle y c (e ∙ ap (λ n. Some n) (sym f.named)))
      (λ p. runner_waits y.state y.attempt (row_is s o t waits (claim_waits s b t id f) y c (eq-eqb y.no t p))))
  row_agree m (kind.Contact b) f x a y c = cond_both (x.no == b) (heard m x) x (λ (z : BotRow). Agree z y) (λ n. agree s o x a y c) (λ n. agree s o x a y c)
  row_agree m (kind.Event b e text) f x a y c = cond_both (x.no == b) (event_effect m e text x) x (λ (z : BotRow). Agree z y) (λ n. event_effect_agree m e text x y (agree s o x a y c)) (λ n. agree s o x a y c)
  row_agree m (kind.Update b t try_no chunk last) f x a y c = update_agree m b t try_no chunk last f x a y c
  row_agree m (kind.Terminate b) f x a y c = cond_both (x.no == b) (terminated x) x (λ (z : BotRow). Agree z y) (λ n. agree s o x a y c) (λ n. agree s o x a y c)
  row_agree m k f x a y c = agree s o x a y c

  -- a task that is added, and a bot that was there
  task_agree : (m : ℕ) (k : EntryKind) → Finds s k → (x : BotRow) → Among x s.bots → (y : TaskRow) → Among y (added_tasks m k) → Agree (bot_after m k x) y
  task_agree m (kind.New t who request state slice from) f x a y c =
      each_one (Agree x) (new_row m t who request state slice from) (
        λ e. (let low = within x.task (length s.tasks) t (IfSome_then x.task (bot_is s o x a).has_task (λ k is. is.1)) e in let n = f.next in absurd (omega (arith, low, n))),
        λ e. absurd (cc (added_idle s m (kind.New t who request state slice from) f y c, each_one (λ (z : TaskRow). runner z ≡ Some x.no) (new_row m t who request state slice from) e y c)),
      ) y c
  task_agree m k f x a y c = elim c [ ]

  -- a bot that is added, and a task that was there
  bot_agree : (m : ℕ) (k : EntryKind) → Finds s k → (x : BotRow) → Among x (added_bots s m k) → (y : TaskRow) → Among y s.tasks → Agree x (task_after s m k y)
  bot_agree m (kind.Handshake b id session dims q) f x a y c = by_old (bot_of s b) refl a
    where
      nobody : IsNewcomer s b id ⊎ IsOld s b id → bot_of s b ≡ None → runner y ≡ Some b → ⊥
      nobody (inl new) g e = let low = within (runner y) (length s.bots) b (task_is s o y c).has_bot e in let n = new.next in absurd (omega (arith, low, n))
      nobody (inr old) g e = absurd (cc (find_bot s o old.bot b old.among old.named, g))

      by_old : (r : Option BotRow) → bot_of s b ≡ r → Among x (option_map_or (λ old. []) r (session_row m b id session dims q ∷ [])) → Agree x (if_some (lost_run_at s.settings.retries m) (option_and_then (λ (z : BotRow). z.task) r) y)
      by_old None g d = each_one (λ (z : BotRow). Agree z y) (session_row m b id session dims q) (λ e. absurd (cc (e)), λ e. absurd (nobody f g e)) x d
      by_old (Some old) g d = elim d [ ]
  bot_agree m k f x a y c = elim a [ ]

  -- no entry adds both
  both_agree : (m : ℕ) (k : EntryKind) (x : BotRow) → Among x (added_bots s m k) → (y : TaskRow) → Among y (added_tasks m k) → Agree x y
  both_agree m (kind.New t who request state slice from) x a y c = elim a [ ]
  both_agree m k x a y c = elim c [ ]

-- bots and tasks agree after the entry
pub runs_agree : (s : PoolState) (e : Entry) → IsSound s → MayFollow s e → All (λ bot. All (Agree bot) (after s e).tasks) (after s e).bots
runs_agree s e o follows =
    let f = finds s e follows in
    all_bots (λ (x : BotRow). All (Agree x) (after s e).tasks) s e.moment e.kind
    (λ x a. all_tasks (Agree (bot_after e.moment e.kind x)) s e.moment e.kind (row_agree s o e.moment e.kind f x a) (task_agree s o e.moment e.kind f x a))
    (λ x a. all_tasks (Agree x) s e.moment e.kind (bot_agree s o e.moment e.kind f x a) (both_agree s o e.moment e.kind x a))
