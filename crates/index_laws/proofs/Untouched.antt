-- A row that an entry does not touch stays as it is, and so does the last contact of a run's bot.
use Rattle.std.proofs.Common.{◌≡◌, ℕ, ◌+◌, ◌==◌, ◌⊎◌, inl, inr, Bool, true, false, cond, List, [], ◌∷◌, length, refl, sym, ap, ◌∙◌, subst, Option, Some, None, eqb-true}
use Rattle.std.specs.Option.{option_map, option_map_or, option_and_then}
use Rattle.std.proofs.lemmas.Bool.{cond_both}
use Rattle.index_laws.specs.Types.{Attempt, Chunk, Last, TaskRow, BotRow, PoolState, EntryKind}
use Rattle.swarm_model.specs.declared.entry.EntryKind.TheVariants as kind
use Rattle.swarm_model.specs.Finding.{task_of, bot_of}
use Rattle.swarm_model.specs.Answers.{run_on}
use Rattle.swarm_model.specs.Effects.{task_after, added_tasks, bot_after, added_bots, expired_slice, lost_run, lost_run_at, canceled, kill_marked, started_run, fresh_chunk, attempt_of, silent_bot, dead_bot, session_row, polled, assigned_bot, heard, event_effect, terminated, if_some, run_of_bot, runs_task, new_row}
use Rattle.swarm_model.specs.Soundness.{IsSound, runner}
use Rattle.pool_laws.proofs.Lists.{Among, each_one}
use Rattle.pool_laws.proofs.Preconditions.{Finds, FindsClaim, FindsUpdate, HasTask, IsNewcomer, IsOld, runs}
use Rattle.pool_laws.proofs.Rows.{agree, one_bot, find_task, find_bot, reported_task, reporting_bot, update_task, update_bot, goes_on_runs}
use Rattle.index_laws.specs.Touched.{touched_task, touched_bot}

-- a change at a number leaves the row of another number
other_number : {R : Type 0} (t n : ℕ) (x y : R) → (Some t ≡ Some n → ⊥) → cond (n == t) y x ≡ x
other_number t n x y u = cond_both (n == t) y x (λ z. z ≡ x) (λ p. absurd (u (ap (λ (k : ℕ). Some k) (sym (eqb-true n t p))))) (λ p. refl)

-- where a test fails, the old row stays
unless_passes : {R : Type 0} (b : Bool) (x y : R) → (b ≡ true → ⊥) → cond b y x ≡ x
unless_passes b x y u = cond_both b y x (λ z. z ≡ x) (λ p. absurd (u p)) (λ p. refl)

module _ (s : PoolState) (o : IsSound s) where
  -- the run of a bot by its number
  run_known : (x : BotRow) → Among x s.bots → (b : ℕ) → (x.no == b) ≡ true → run_of_bot s b ≡ x.task
  run_known x a b p = ap (option_and_then (λ (z : BotRow). z.task)) (find_bot s o x b a (eqb-true x.no b p))

  -- a task that is not touched stays as it is
  pub same_task : (m : ℕ) (k : EntryKind) → Finds s k → (x : TaskRow) → Among x s.tasks → (touched_task s k ≡ Some x.no → ⊥) → task_after s m k x ≡ x
  same_task m (kind.Slice t to) f x a u = other_number t x.no x (expired_slice m to x) u
  same_task m (kind.Silence t) f x a u = other_number t x.no x (lost_run s.settings.retries m x) u
  same_task m (kind.Cancel t) f x a u = other_number t x.no x (canceled m x) u
  same_task m (kind.Kill t) f x a u = other_number t x.no x (kill_marked x) u
  same_task m (kind.Handshake b id session dims q) f x a u = by_run (run_of_bot s b) u
    where
      by_run : (r : Option ℕ) → (r ≡ Some x.no → ⊥) → if_some (lost_run_at s.settings.retries m) r x ≡ x
      by_run None v = refl
      by_run (Some t) v = other_number t x.no x (lost_run s.settings.retries m x) v
  same_task m (kind.Claim b t id) f x a u = other_number t x.no x (started_run m b id x) u
  same_task m (kind.Update b t try_no chunk last) f x a u = update_task s m b t try_no chunk last x ∙ other_number t x.no x (reported_task m (fresh_chunk (attempt_of s t) chunk) chunk last x) u
  same_task m k f x a u = refl

  -- a task that runs has the bot as its runner whose row names the task
  runner_named : (t : ℕ) → (f : HasTask s t runs) → (x : BotRow) → Among x s.bots → x.task ≡ Some t → runner f.task ≡ Some x.no
  runner_named t f x a e = (agree s o x a f.task f.among).0 (e ∙ ap (λ (k : ℕ). Some k) (sym f.named))

  -- and the task's attempt names the bot
  attempt_named : (t : ℕ) → (f : HasTask s t runs) → (n : ℕ) → runner f.task ≡ Some n → option_map (λ (a : Attempt). a.bot) (attempt_of s t) ≡ Some n
  attempt_named t f n e =
      ap (λ (r : Option TaskRow). option_map (λ (a : Attempt). a.bot) (option_and_then (λ (z : TaskRow). z.attempt) r)) (find_task s o f.task t f.among f.named) ∙ by_test (runs f.task) f.passes e
    where
      by_test : (c : Bool) → c ≡ true → cond c (option_map (λ (a : Attempt). a.bot) f.task.attempt) None ≡ Some n → option_map (λ (a : Attempt). a.bot) f.task.attempt ≡ Some n
      by_test true p h = h
      by_test false p h = absurd (cc (p))

  -- a bot that is not touched stays as it is
  pub same_bot : (m : ℕ) (k : EntryKind) → Finds s k → (x : BotRow) → Among x s.bots → (touched_bot s k ≡ Some x.no → ⊥) → bot_after m k x ≡ x
  same_bot m (kind.Silence t) f x a u = unless_passes (runs_task t x) x (silent_bot x) (λ p. u (attempt_named t f x.no (runner_named t f x a (by_run x.task p))))
    where
      by_run : (r : Option ℕ) → option_map_or (λ (n : ℕ). n == t) r false ≡ true → r ≡ Some t
      by_run None p = absurd (cc (p))
      by_run (Some n) p = ap (λ (j : ℕ). Some j) (eqb-true n t p)
  same_bot m (kind.Dead b) f x a u = other_number b x.no x (dead_bot x) u
  same_bot m (kind.Handshake b id session dims q) f x a u = other_number b x.no x (session_row m b id session dims q) u
  same_bot m (kind.Poll b dims q hint) f x a u = other_number b x.no x (polled m dims q hint x) u
  same_bot m (kind.Claim b t id) f x a u = other_number b x.no x (assigned_bot m t x) u
  same_bot m (kind.Contact b) f x a u = other_number b x.no x (heard m x) u
  same_bot m (kind.Event b e text) f x a u = other_number b x.no x (event_effect m e text x) u
  same_bot m (kind.Update b t try_no chunk last) f x a u = update_bot m b t try_no chunk last x ∙ other_number b x.no x (reporting_bot m last x) u
  same_bot m (kind.Terminate b) f x a u = other_number b x.no x (terminated x) u
  same_bot m k f x a u = refl

  -- an entry that does not touch a task leaves the last contact of its bot
  module _ (x : BotRow) (a : Among x s.bots) (y : TaskRow) (c : Among y s.tasks) (e : x.task ≡ Some y.no) where
    -- an entry of a bot touches the task that the bot runs
    by_contact : (b : ℕ) (z : BotRow) → (run_of_bot s b ≡ Some y.no → ⊥) → (cond (x.no == b) z x).contact ≡ x.contact
    by_contact b z u = ap (λ (r : BotRow). r.contact) (unless_passes (x.no == b) x z (λ p. u (run_known x a b p ∙ e)))

    -- a bot that claims runs nothing
    claims_idle : (b t : ℕ) (id : List ℕ) → FindsClaim s b t id → (x.no == b) ≡ true → ⊥
    claims_idle b t id f p =
        let same : f.bot ≡ x = one_bot s o f.bot x f.among a (f.named ∙ sym (eqb-true x.no b p)) in
        let none : run_on s x ≡ None = subst (λ (z : BotRow). run_on s z ≡ None) same f.idle in
        let some : run_on s x ≡ Some y = ap (option_and_then (task_of s)) e ∙ find_task s o y y.no c refl in
        cc (none, some)

    -- and one that reports runs what it reports of
    reports_own : (b t : ℕ) (chunk : Option Chunk) (last : Option Last) → FindsUpdate s b t chunk last → (x.no == b) ≡ true → Some t ≡ Some y.no
    reports_own b t chunk last f p =
        let runs_it : runner f.task ≡ Some x.no = rw (goes_on_runs s o b t chunk last f, f.attempted) (ap (λ (n : ℕ). Some n) (f.by_bot ∙ sym (eqb-true x.no b p))) in
        let own : x.task ≡ Some f.task.no = (agree s o x a f.task f.among).1 runs_it in
        ap (λ (n : ℕ). Some n) (sym f.named) ∙ sym own ∙ e

    pub same_contact : (m : ℕ) (k : EntryKind) → Finds s k → (touched_task s k ≡ Some y.no → ⊥) → (bot_after m k x).contact ≡ x.contact
    same_contact m (kind.Silence t) f u = cond_both (runs_task t x) (silent_bot x) x (λ (z : BotRow). z.contact ≡ x.contact) (λ p. refl) (λ p. refl)
    same_contact m (kind.Dead b) f u = cond_both (x.no == b) (dead_bot x) x (λ (z : BotRow). z.contact ≡ x.contact) (λ p. refl) (λ p. refl)
    same_contact m (kind.Handshake b id session dims q) f u = by_contact b (session_row m b id session dims q) u
    same_contact m (kind.Poll b dims q hint) f u = by_contact b (polled m dims q hint x) u
    same_contact m (kind.Claim b t id) f u = ap (λ (r : BotRow). r.contact) (unless_passes (x.no == b) x (assigned_bot m t x) (claims_idle b t id f))
    same_contact m (kind.Contact b) f u = by_contact b (heard m x) u
    same_contact m (kind.Event b w text) f u = by_contact b (event_effect m w text x) u
    same_contact m (kind.Update b t try_no chunk last) f u =
        ap (λ (r : BotRow). r.contact) (update_bot m b t try_no chunk last x ∙ unless_passes (x.no == b) x (reporting_bot m last x) (λ p. u (reports_own b t chunk last f p)))
    same_contact m (kind.Terminate b) f u = cond_both (x.no == b) (terminated x) x (λ (z : BotRow). z.contact ≡ x.contact) (λ p. refl) (λ p. refl)
    same_contact m k f u = refl

-- a task that an entry adds is the one that it touches
pub added_touched : (s : PoolState) (m : ℕ) (k : EntryKind) (x : TaskRow) → Among x (added_tasks m k) → touched_task s k ≡ Some x.no
added_touched s m (kind.New t who request state slice from) x a =
    each_one (λ (z : TaskRow). Some t ≡ Some z.no) (new_row m t who request state slice from) refl x a
added_touched s m k x a = elim a [ ]

-- and so is a bot, which has the next number
pub added_bot_touched : (s : PoolState) (m : ℕ) (k : EntryKind) (x : BotRow) → Among x (added_bots s m k) → touched_bot s k ≡ Some x.no
added_bot_touched s m (kind.Handshake b id session dims q) x a = by_old (bot_of s b) a
  where
    by_old : (r : Option BotRow) → Among x (option_map_or (λ old. []) r (session_row m b id session dims q ∷ [])) → Some b ≡ Some x.no
    by_old None c = each_one (λ (z : BotRow). Some b ≡ Some z.no) (session_row m b id session dims q) refl x c
    by_old (Some old) c = elim c [ ]
added_bot_touched s m k x a = elim a [ ]

pub added_bot_next : (s : PoolState) (o : IsSound s) (m : ℕ) (k : EntryKind) → Finds s k → (x : BotRow) → Among x (added_bots s m k) → x.no ≡ length s.bots + 1
added_bot_next s o m (kind.Handshake b id session dims q) f x a = by_old f (bot_of s b) refl a
  where
    by_old : IsNewcomer s b id ⊎ IsOld s b id → (r : Option BotRow) → bot_of s b ≡ r → Among x (option_map_or (λ old. []) r (session_row m b id session dims q ∷ [])) → x.no ≡ length s.bots + 1
    by_old g (Some old) h c = elim c [ ]
    by_old (inl new) None h c = each_one (λ (z : BotRow). z.no ≡ length s.bots + 1) (session_row m b id session dims q) new.next x c
    by_old (inr old) None h c = absurd (cc (find_bot s o old.bot b old.among old.named, h))
added_bot_next s o m k f x a = elim a [ ]
