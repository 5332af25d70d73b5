-- The verdict on a task, from the phase on that it has come to.
use Rattle.std.proofs.Common.{◌≡◌, ℕ, ◌==◌, ◌||◌, List, [], ◌∷◌, refl, ap, ◌∙◌, true, false, Bool, Option, Some, None}
use Rattle.std.specs.Prelude.{if◌then◌else◌}
use Rattle.std.specs.List.{list_any}
use Rattle.std.specs.Option.{option_map, option_or}
use Rattle.dimensions.specs.Choosing.{when}
use Rattle.pool_laws.specs.Types.{TaskState, Pending, Running, BotDied, Canceled, Entry, EntryKind}
use Rattle.swarm_model.specs.declared.entry.EntryKind.TheVariants as kind
use Rattle.swarm_model.specs.Words.{◌otherwise◌}
use Rattle.swarm_model.specs.Finding.{is_state}
use Rattle.swarm_model.specs.Verdicts.{Told, told_by, may_try_again, wait_verdict, run_verdict, end_verdict, claim_verdict, slice_verdict, final_only, run_end, is_kill, claimant, slice_state, is_cancel, is_cancel_of}
use Rattle.pool_laws.proofs.Phases.{Phase, Waiting, RunBy, Over, as_claimed_once, phase_in, state_in, next_phase, phase_after_end, from_claim, from_end}

abbrev pub cancels : ℕ → List Entry → Bool
cancels t log = list_any (is_cancel_of t) log

-- on a task in a phase
abbrev pub verdict_from : ℕ → ℕ → Phase → List Entry → TaskState
verdict_from r t (Waiting told) log = claim_verdict r t told log otherwise wait_verdict t log
verdict_from r t (RunBy b q told) log = claim_verdict r t (as_claimed_once told) log otherwise run_verdict t b (may_try_again r told) q log
verdict_from r t (Over state) log = state

-- a task that does not come to wait again
abbrev pub IsLeft : ℕ → Phase → Type 0
IsLeft r (Waiting told) = ⊥
IsLeft r (RunBy b q told) = may_try_again r told ≡ false
IsLeft r (Over state) = Unit {0}

-- no claim and no cancel of the task comes
abbrev pub NoneComes : ℕ → ℕ → List Entry → Type 0
NoneComes r t log = ((told : Told) → claim_verdict r t told log ≡ None) × (cancels t log ≡ false)

-- a run is not claimed, and no entry tells of its slices
abbrev pub IsQuiet : ℕ → EntryKind → Phase → Type 0
IsQuiet t k (Waiting told) = Unit {0}
IsQuiet t k (RunBy b q told) = (claimant t k ≡ None) × ((given : Told) → told_by t k given ≡ given)
IsQuiet t k (Over state) = Unit {0}

-- what is claimed last
pub or_other : {A : Type 0} (first second : Option A) (x : A) → (option_or first second otherwise x) ≡ (first otherwise (second otherwise x))
or_other None second x = refl
or_other (Some y) second x = refl

-- a claim tells that the task was claimed
claim_told : (t : ℕ) (k : EntryKind) (n : ℕ) (told : Told) → claimant t k ≡ Some n → told_by t k told ≡ as_claimed_once told
claim_told t (kind.Claim b u id) n told e = by_test (u == t) e
  where
    by_test : (c : Bool) → when c b ≡ Some n → (if c then as_claimed_once told else told) ≡ as_claimed_once told
    by_test true g = refl
    by_test false g = absurd (cc (g))
claim_told t k n told e = absurd (cc (e))

-- one entry of a wait, by what it may say
abbrev pub wait_step : ℕ → ℕ → Told → Told → List Entry → Option ℕ → Bool → Option TaskState → TaskState
wait_step r t told next log c b o =
    option_or (claim_verdict r t next log) (option_map (λ n. run_verdict t n (may_try_again r told) false log) c)
    otherwise when (b || cancels t log) Canceled
    otherwise option_or o (slice_verdict t log)
    otherwise Pending

-- it moves the task to the next phase
wait_step_is : (r t : ℕ) (told next : Told) (log : List Entry) (c : Option ℕ) (b : Bool) (o : Option TaskState) → ((n : ℕ) → c ≡ Some n → next ≡ as_claimed_once told) →
    (IsLeft r (from_claim told c (from_end (when b Canceled) (from_end o (Waiting next)))) → NoneComes r t log) →
    wait_step r t told next log c b o ≡ verdict_from r t (from_claim told c (from_end (when b Canceled) (from_end o (Waiting next)))) log
wait_step_is r t told next log (Some n) b o claims none =
    or_other (claim_verdict r t next log) (Some (run_verdict t n (may_try_again r told) false log)) _
    ∙ ap (λ z. claim_verdict r t z log otherwise run_verdict t n (may_try_again r told) false log) (claims n refl)
wait_step_is r t told next log None true o claims none = rw ((none tt).0 next) refl
wait_step_is r t told next log None false (Some state) claims none = let l = none tt in rw (l.0 next, l.1) refl
wait_step_is r t told next log None false None claims none = or_other (claim_verdict r t next log) None _

-- an entry that says nothing of the task
pub wait_skip : (r t : ℕ) (given told next : Told) (log : List Entry) (c : Option ℕ) (b : Bool) (o : Option TaskState) → c ≡ None → b ≡ false → o ≡ None → next ≡ told →
    wait_step r t given next log c b o ≡ verdict_from r t (Waiting told) log
wait_skip r t given told next log None false None p q g e = or_other (claim_verdict r t next log) None _ ∙ ap (λ z. claim_verdict r t z log otherwise wait_verdict t log) e
wait_skip r t given told next log (Some n) b o p q g e = absurd (cc (p))
wait_skip r t given told next log None true o p q g e = absurd (cc (q))
wait_skip r t given told next log None false (Some state) p q g e = absurd (cc (g))

-- one entry of a run
run_step_is : (r t b : ℕ) (q k : Bool) (told next : Told) (log : List Entry) (c : Option ℕ) (o : Option (Option TaskState)) → c ≡ None → next ≡ as_claimed_once told →
    (IsLeft r (phase_after_end r told q o (RunBy b k told)) → NoneComes r t log) →
    (option_or (claim_verdict r t next log) (option_map (λ n. run_verdict t n (may_try_again r (as_claimed_once told)) false log) c)
    otherwise option_map (end_verdict t (may_try_again r told) q log) o
    otherwise run_verdict t b (may_try_again r told) k log)
    ≡ verdict_from r t (phase_after_end r told q o (RunBy b k told)) log
run_step_is r t b q k told next log (Some n) o no_claim same none = absurd (cc (no_claim))
run_step_is r t b q k told next log None None no_claim same none =
    or_other (claim_verdict r t next log) None _ ∙ ap (λ z. claim_verdict r t z log otherwise run_verdict t b (may_try_again r told) k log) same
run_step_is r t b true k told next log None (Some end) no_claim same none = rw ((none tt).0 next) refl
run_step_is r t b false k told next log None (Some (Some state)) no_claim same none = rw ((none tt).0 next) refl
run_step_is r t b false k told next log None (Some None) no_claim same none = by_again (may_try_again r told) none
  where
    by_again : (c : Bool) → (IsLeft r (if c then Waiting (as_claimed_once told) else Over BotDied) → NoneComes r t log) →
        (option_or (claim_verdict r t next log) None otherwise end_verdict t c false log None) ≡ verdict_from r t (if c then Waiting (as_claimed_once told) else Over BotDied) log
    by_again true g = or_other (claim_verdict r t next log) None _ ∙ ap (λ z. claim_verdict r t z log otherwise wait_verdict t log) same
    by_again false g = rw ((g tt).0 next) refl

-- so the verdict is that on the rest, from the next phase on
pub from_step : (r t : ℕ) (e : Entry) (log : List Entry) (p : Phase) → IsQuiet t e.kind p → (IsLeft r (next_phase r t e.kind p) → NoneComes r t log) →
    verdict_from r t p (e ∷ log) ≡ verdict_from r t (next_phase r t e.kind p) log
from_step r t e log (Waiting told) quiet none =
    wait_step_is r t told (told_by t e.kind told) log (claimant t e.kind) (is_cancel t e.kind) (slice_state t e.kind) (λ n c. claim_told t e.kind n told c) none
from_step r t e log (RunBy b q told) quiet none =
    run_step_is r t b q (q || is_kill t e.kind) told (told_by t e.kind (as_claimed_once told)) log (claimant t e.kind) (run_end t b e.kind) quiet.0 (quiet.1 (as_claimed_once told)) none
from_step r t e log (Over state) quiet none = refl

-- where nothing follows it is the state
pub from_end_is : (r t : ℕ) (p : Phase) → verdict_from r t p [] ≡ state_in p
from_end_is r t (Waiting told) = refl
from_end_is r t (RunBy b q told) = refl
from_end_is r t (Over state) = refl

-- the verdict on a task that is accepted in a state
pub from_start : (r t : ℕ) (log : List Entry) (state : TaskState) (told : Told) → is_state state Running ≡ false →
    (final_only (Some state) otherwise verdict_from r t (Waiting told) log) ≡ verdict_from r t (phase_in state None told) log
from_start r t log Pending told i = refl
from_start r t log Running told i = absurd (cc (i))
from_start r t log state told i = refl

-- a task that does not come to wait again stays so
pub left_stays : (r t : ℕ) (k : EntryKind) (p : Phase) → IsLeft r p → IsLeft r (next_phase r t k p)
left_stays r t k (Waiting told) l = absurd l
left_stays r t k (RunBy b q told) l = by_end q (run_end t b k)
  where
    by_end : (c : Bool) (o : Option (Option TaskState)) → IsLeft r (phase_after_end r told c o (RunBy b (q || is_kill t k) told))
    by_end c None = l
    by_end true (Some end) = tt
    by_end false (Some (Some state)) = tt
    by_end false (Some None) = rw l tt
left_stays r t k (Over state) l = tt
