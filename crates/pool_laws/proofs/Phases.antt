-- A task waits, runs on a bot, or is over.
use Rattle.std.proofs.Common.{◌≡◌, ℕ, ◌==◌, ◌&&◌, ◌||◌, not, refl, ap, sym, ◌∙◌, subst, cond, true, false, Bool, Option, Some, None, IfSome, is_some, eqb-true}
use Rattle.std.specs.Prelude.{if◌then◌else◌}
use Rattle.std.specs.Option.{option_map}
use Rattle.std.proofs.lemmas.Bool.{eq-eqb, ne_eqb, eqb-false}
use Rattle.dimensions.specs.Choosing.{when}
use Rattle.pool_laws.specs.Types.{TaskState, Pending, Running, BotDied, Canceled, Killed, Attempt, Chunk, Retried, TaskRow, EntryKind}
use Rattle.swarm_model.specs.Finding.{is_state, is_final}
use Rattle.swarm_model.specs.Effects.{end_state, killed, with_chunk, is_idempotent, is_first_run, is_tried_again, retried_from, retried_run, died_run, lost_run}
use Rattle.swarm_model.specs.Soundness.{IsRightTry, runner}
use Rattle.swarm_model.specs.Verdicts.{Told, told_by, may_try_again, run_end, is_kill, claimant, slice_state, is_cancel}
use Rattle.pool_laws.proofs.Preconditions.{waits}
use Rattle.pool_laws.proofs.Rows.{fits_in}
use Rattle.pool_laws.proofs.Tasks.{end_final}

pub data Phase : Type 0 where
  Waiting : (told : Told) → Phase
  RunBy : (bot : ℕ) (killed : Bool) (told : Told) → Phase
  Over : (state : TaskState) → Phase

-- what its row tells of a task
abbrev pub told_of : TaskRow → Told
told_of x = record { slices = x.request.task_slices; place = x.slice; claimed = is_some x.retried }

abbrev pub as_claimed_once : Told → Told
as_claimed_once told = record told { claimed = true }

-- of a row, by its parts
abbrev pub phase_in : TaskState → Option Attempt → Told → Phase
phase_in Pending attempt told = Waiting told
phase_in Running None told = Over Running
phase_in Running (Some a) told = RunBy a.bot a.kill told
phase_in state attempt told = Over state

abbrev pub phase : TaskRow → Phase
phase x = phase_in x.state x.attempt (told_of x)

-- the state in a phase
abbrev pub state_in : Phase → TaskState
state_in (Waiting told) = Pending
state_in (RunBy b q told) = Running
state_in (Over state) = state

-- is that of the row
pub state_of_phase : (state : TaskState) (attempt : Option Attempt) (told : Told) → state_in (phase_in state attempt told) ≡ state
state_of_phase Running None told = refl
state_of_phase Running (Some a) told = refl
state_of_phase state attempt told = refl

-- what an entry makes of a run

abbrev pub ended_phase : ℕ → Told → Bool → Option TaskState → Phase
ended_phase r told true end = Over Killed
ended_phase r told false (Some state) = Over state
ended_phase r told false None = if may_try_again r told then Waiting (as_claimed_once told) else Over BotDied

abbrev pub phase_after_end : ℕ → Told → Bool → Option (Option TaskState) → Phase → Phase
phase_after_end r told q None p = p
phase_after_end r told q (Some end) p = ended_phase r told q end

-- and of a wait

abbrev pub from_claim : Told → Option ℕ → Phase → Phase
from_claim told None p = p
from_claim told (Some b) p = RunBy b false told

abbrev pub from_end : Option TaskState → Phase → Phase
from_end None p = p
from_end (Some state) p = Over state

-- the phase of task t after an entry, from what the entry alone tells
abbrev pub next_phase : ℕ → ℕ → EntryKind → Phase → Phase
next_phase r t k (Waiting told) = from_claim told (claimant t k) (from_end (when (is_cancel t k) Canceled) (from_end (slice_state t k) (Waiting (told_by t k told))))
next_phase r t k (RunBy b q told) = phase_after_end r told q (run_end t b k) (RunBy b (q || is_kill t k) told)
next_phase r t k (Over state) = Over state

-- a row tests its number with the entry's, and the verdict the other way round
pub turn_true : (a b : ℕ) → (a == b) ≡ true → (b == a) ≡ true
turn_true a b e = eq-eqb b a (sym (eqb-true a b e))

-- where it fails, too
pub turn_false : (a b : ℕ) → (a == b) ≡ false → (b == a) ≡ false
turn_false a b e = ne_eqb b a (λ p. eqb-false a b e (sym p))

pub or_false : (q : Bool) → (q || false) ≡ q
or_false true = refl
or_false false = refl

pub or_true : (q : Bool) → (q || true) ≡ true
or_true true = refl
or_true false = refl

-- a final state is over
pub over_final : (state : TaskState) (attempt : Option Attempt) (told : Told) → is_final state ≡ true → phase_in state attempt told ≡ Over state
over_final Pending attempt told f = absurd (cc (f))
over_final Running attempt told f = absurd (cc (f))
over_final state attempt told f = refl

-- and a task that is over has one
pub phase_over : (state : TaskState) (attempt : Option Attempt) (told : Told) (ended : Option ℕ) (end : TaskState) → fits_in state attempt ended ≡ true → phase_in state attempt told ≡ Over end → is_final state ≡ true
phase_over Pending attempt told ended end f e = absurd (cc (e))
phase_over Running None told ended end f e = absurd (cc (f))
phase_over Running (Some a) told ended end f e = absurd (cc (e))
phase_over state attempt told ended end f e = refl

-- what waits is pending, and its row tells what is told
pub wait_pending : (state : TaskState) (attempt : Option Attempt) (told was : Told) → phase_in state attempt told ≡ Waiting was → (state ≡ Pending) × (told ≡ was)
wait_pending Pending attempt told was e = (refl, cc (e))
wait_pending Running None told was e = absurd (cc (e))
wait_pending Running (Some a) told was e = absurd (cc (e))
wait_pending state attempt told was e = absurd (cc (e))

-- a task that waits does not run
pub wait_state : (x : TaskRow) (told : Told) → phase x ≡ Waiting told → is_state x.state Running ≡ false
wait_state x told p = ap (λ state. is_state state Running) (wait_pending x.state x.attempt (told_of x) told p).0

-- and one that has left its wait does not wait
pub left_wait : (state : TaskState) (attempt : Option Attempt) (told : Told) → ((was : Told) → phase_in state attempt told ≡ Waiting was → ⊥) → is_state state Pending ≡ false
left_wait Pending attempt told f = absurd (f told refl)
left_wait state attempt told f = refl

-- runs

-- what a phase says of a run
pub record IsRunBy (state : TaskState) (attempt : Option Attempt) (b : ℕ) (q : Bool) : Type 0 where
  pub run : Attempt
  pub has : attempt ≡ Some run
  pub running : state ≡ Running
  pub by_bot : run.bot ≡ b
  pub killed : run.kill ≡ q

pub run_is_by : (state : TaskState) (attempt : Option Attempt) (told was : Told) (b : ℕ) (q : Bool) → phase_in state attempt told ≡ RunBy b q was → IsRunBy state attempt b q × (told ≡ was)
run_is_by Running (Some a) told was b q e = (record { run = a; has = refl; running = refl; by_bot = cc (e); killed = cc (e) }, cc (e))
run_is_by Running None told was b q e = absurd (cc (e))
run_is_by Pending attempt told was b q e = absurd (cc (e))
run_is_by state attempt told was b q e = absurd (cc (e))

-- and back
pub run_by_is : (state : TaskState) (attempt : Option Attempt) (told : Told) (b : ℕ) (q : Bool) → IsRunBy state attempt b q → phase_in state attempt told ≡ RunBy b q told
run_by_is state attempt told b q f = rw (f.running, f.has) (ap (λ n. RunBy n f.run.kill told) f.by_bot ∙ ap (λ k. RunBy b k told) f.killed)

-- it does not wait
pub run_waits : (x : TaskRow) (b : ℕ) (q : Bool) → IsRunBy x.state x.attempt b q → waits x ≡ false
run_waits x b q f = ap (λ state. is_state state Pending) f.running

-- and has its bot
pub run_runner : (x : TaskRow) (b : ℕ) (q : Bool) → IsRunBy x.state x.attempt b q → runner x ≡ Some b
run_runner x b q f = rw (f.running, f.has) (ap (λ n. Some n) f.by_bot)

-- a run that is asked to stop
pub run_killed : (state : TaskState) (attempt : Option Attempt) (b : ℕ) (q : Bool) → IsRunBy state attempt b q → IsRunBy state (option_map killed attempt) b true
run_killed state attempt b q f = record { run = killed f.run; has = ap (option_map killed) f.has; running = f.running; by_bot = f.by_bot; killed = refl }

-- a run whose output goes on
pub run_longer : (chunk : Chunk) (state : TaskState) (attempt : Option Attempt) (b : ℕ) (q : Bool) → IsRunBy state attempt b q → IsRunBy state (option_map (with_chunk chunk) attempt) b q
run_longer chunk state attempt b q f = record { run = with_chunk chunk f.run; has = ap (option_map (with_chunk chunk)) f.has; running = f.running; by_bot = f.by_bot; killed = f.killed }

-- the end of a run, killed, where it was asked to stop before
pub end_is : (attempt : Option Attempt) (run : Attempt) (q : Bool) (state : TaskState) → attempt ≡ Some run → run.kill ≡ q → end_state attempt state ≡ (if q then Killed else state)
end_is attempt run q state has k = ap (λ o. end_state o state) has ∙ ap (λ c. cond c Killed state) k

pub run_ended : (r : ℕ) (x : TaskRow) (b : ℕ) (q : Bool) (state : TaskState) (attempt : Option Attempt) (told was : Told) → is_final state ≡ true → IsRunBy x.state x.attempt b q →
    phase_in (end_state x.attempt state) attempt told ≡ ended_phase r was q (Some state)
run_ended r x b q state attempt told was final f =
    over_final (end_state x.attempt state) attempt told (end_final x.attempt state final) ∙ ap (λ z. Over z) (end_is x.attempt f.run q state f.has f.killed) ∙ by_kill q
  where
    by_kill : (c : Bool) → Over (cond c Killed state) ≡ ended_phase r was c (Some state)
    by_kill true = refl
    by_kill false = refl

-- a run that is lost: what its row says of another try is what is told of it
try_test : (r : ℕ) (first kill idem claimed : Bool) → first ≡ not claimed → (r == 1 && ((first && not kill) && idem)) ≡ ((r == 1 && (not claimed && idem)) && not kill)
try_test r first kill idem claimed e = rw e (by_test (r == 1) claimed idem kill)
  where
    by_test : (a b c d : Bool) → (a && ((not b && not d) && c)) ≡ ((a && (not b && c)) && not d)
    by_test true true c d = refl
    by_test true false true true = refl
    by_test true false true false = refl
    by_test true false false true = refl
    by_test true false false false = refl
    by_test false b c d = refl

-- the first try is that of a task of which none was tried again
first_is : (o : Option Retried) (a : Attempt) → IsRightTry o a → (a.try_no == 1) ≡ not (is_some o)
first_is None a h = ap (λ n. n == 1) h
first_is (Some lost) a h = ap (λ n. n == 1) h.0

pub tries_again : (r : ℕ) (x : TaskRow) (b : ℕ) (q : Bool) → IsRunBy x.state x.attempt b q → IfSome x.attempt (IsRightTry x.retried) → is_tried_again r x ≡ (may_try_again r (told_of x) && not q)
tries_again r x b q f tries =
    ap (λ o. r == 1 && (is_first_run o && is_idempotent x)) f.has
    ∙ try_test r (f.run.try_no == 1) f.run.kill (is_idempotent x) (is_some x.retried) (first_is x.retried f.run (subst (λ o. IfSome o (IsRightTry x.retried)) f.has tries))
    ∙ ap (λ k. may_try_again r (told_of x) && not k) f.killed

pub run_lost : (r m : ℕ) (x : TaskRow) (b : ℕ) (q : Bool) → IsRunBy x.state x.attempt b q → IfSome x.attempt (IsRightTry x.retried) → phase (lost_run r m x) ≡ ended_phase r (told_of x) q None
run_lost r m x b q f tries = by_test q (may_try_again r (told_of x)) refl refl
  where
    again : phase (retried_run m x) ≡ Waiting (as_claimed_once (told_of x))
    again = ap (λ o. Waiting (record { slices = x.request.task_slices; place = x.slice; claimed = is_some (option_map (retried_from m x.slice) o) })) f.has

    died : phase (died_run m x) ≡ Over (end_state x.attempt BotDied)
    died = over_final (end_state x.attempt BotDied) x.attempt (told_of (died_run m x)) (end_final x.attempt BotDied refl)

    test : (k c : Bool) → q ≡ k → may_try_again r (told_of x) ≡ c → is_tried_again r x ≡ (c && not k)
    test k c g h = tries_again r x b q f tries ∙ ap (λ z. z && not q) h ∙ ap (λ z. c && not z) g

    by_test : (k c : Bool) → q ≡ k → may_try_again r (told_of x) ≡ c → phase (lost_run r m x) ≡ ended_phase r (told_of x) k None
    by_test true true g h = rw (test true true g h) (died ∙ ap (λ z. Over z) (end_is x.attempt f.run true BotDied f.has (f.killed ∙ g)))
    by_test true false g h = rw (test true false g h) (died ∙ ap (λ z. Over z) (end_is x.attempt f.run true BotDied f.has (f.killed ∙ g)))
    by_test false true g h = rw (test false true g h, h) again
    by_test false false g h = rw (test false false g h, h) (died ∙ ap (λ z. Over z) (end_is x.attempt f.run false BotDied f.has (f.killed ∙ g)))
