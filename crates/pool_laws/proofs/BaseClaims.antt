-- Claims and runs from a base on.
use Rattle.std.proofs.Common.{◌≡◌, ℕ, ◌==◌, List, [], ◌∷◌, ◌++◌, map, refl, ap, sym, ◌∙◌, subst, cond, true, false, Bool, Option, Some, None, eqb-true}
use Rattle.std.specs.Option.{option_map_or}
use Rattle.std.proofs.lemmas.Bool.{eq-eqb}
use Rattle.pool_laws.specs.Types.{Attempt, Retried, TaskRow, PoolState, Entry}
use Rattle.swarm_model.specs.declared.entry.EntryKind.TheVariants as kind
use Rattle.swarm_model.specs.declared.entry.Outcome.TheVariants as outcome
use Rattle.swarm_model.specs.Answers.{entry_at}
use Rattle.swarm_model.specs.Claims.{claimants, bots_in, bots_of}
use Rattle.swarm_model.specs.Entries.{is_deadline}
use Rattle.swarm_model.specs.Finding.{is_final, is_task, task_of}
use Rattle.swarm_model.specs.History.{replay, IsCaused}
use Rattle.swarm_model.specs.Soundness.{IsSound}
use Rattle.pool_laws.proofs.Lists.{Among, Found, all, find_is, find_none}
use Rattle.pool_laws.proofs.Preconditions.{Finds, FindsClaim, HasTask, waits}
use Rattle.pool_laws.proofs.EntryPreconditions.{finds, none_due}
use Rattle.pool_laws.proofs.Rows.{one_task, task_is, claim_waits}
use Rattle.pool_laws.proofs.Sound.{sound_replay}
use Rattle.pool_laws.proofs.Tasks.{not_pending}
use Rattle.pool_laws.proofs.Tracks.{Tracked, track, final_lasts}
use Rattle.pool_laws.proofs.ClaimLaw.{claims_from, claims_none, right_by}
use Rattle.pool_laws.proofs.BaseVerdicts.{InBase, row, no_row, in_base}
use Rattle.swarm_model.specs.Before.{accepted_in, accepted_at, lost_before, run_before, entries_of, before, bots_before, HasRightRunsSince}
use Rattle.pool_laws.specs.Bases.{ClaimsFromABase, RunsFromABase}

-- the run that a row tells of
run_claims : (t : ℕ) (r : Option Attempt) (log : List Entry) → claimants t (map (entry_at 0 0) (run_before t r) ++ log) ≡ bots_in None r ++ claimants t log
run_claims t None log = refl
run_claims t (Some a) log = by_kill a.kill
  where
    by_kill : (q : Bool) → claimants t (map (entry_at 0 0) (kind.Claim a.bot t a.claim ∷ cond q (kind.Kill t ∷ []) []) ++ log) ≡ a.bot ∷ claimants t log
    by_kill true = rw (eq-eqb t t refl) refl
    by_kill false = rw (eq-eqb t t refl) refl

-- behind the one that is tried again
both_bots : (lost : Retried) (r : Option Attempt) (bots : List ℕ) → (lost.attempt.bot ∷ (bots_in None r ++ bots)) ≡ bots_in (Some lost) r ++ bots
both_bots lost None bots = refl
both_bots lost (Some a) bots = refl

lost_claims : (t slice : ℕ) (o : Option Retried) (r : Option Attempt) (log : List Entry) → claimants t (map (entry_at 0 0) (lost_before t slice o ++ run_before t r) ++ log) ≡ bots_in o r ++ claimants t log
lost_claims t slice None r log = run_claims t r log
lost_claims t slice (Some lost) r log = by_slice (slice == lost.slice) ∙ both_bots lost r (claimants t log)
  where
    by_slice : (c : Bool) →
        claimants t
        (map (entry_at 0 0) (kind.Claim lost.attempt.bot t lost.attempt.claim ∷ kind.Silence t ∷ (cond c [] (kind.Slice t (outcome.Slice slice) ∷ []) ++ run_before t r)) ++ log)
        ≡ lost.attempt.bot ∷ (bots_in None r ++ claimants t log)
    by_slice true = rw (eq-eqb t t refl) (ap (λ bots. lost.attempt.bot ∷ bots) (run_claims t r log))
    by_slice false = rw (eq-eqb t t refl) (ap (λ bots. lost.attempt.bot ∷ bots) (run_claims t r log))

-- what a row of a task that goes on tells of claims are its runs
row_claims : (x : TaskRow) (log : List Entry) → is_final x.state ≡ false → claimants x.no (entries_of x ++ log) ≡ bots_of x ++ claimants x.no log
row_claims x log goes_on = by_test (is_final x.state) goes_on
  where
    by_test : (c : Bool) → c ≡ false →
        claimants x.no
        (map (entry_at 0 0) (kind.New x.no x.creator x.request (accepted_in x.state) (accepted_at x.slice x.retried) x.source ∷ cond c [] (lost_before x.no x.slice x.retried ++ run_before x.no x.attempt)) ++ log)
        ≡ bots_of x ++ claimants x.no log
    by_test true e = absurd (cc (e))
    by_test false e = lost_claims x.no x.slice x.retried x.attempt log

-- the runs of each row in the end are those that the base has, and those of the claims since
bots_since : (base : PoolState) (log : List Entry) (t : ℕ) → IsSound base → IsCaused base log → (y : TaskRow) → Among y (replay base log).tasks → y.no ≡ t → bots_of y ≡ bots_before base t ++ claimants t log
bots_since base log t o c y a n = by_row (task_of base t) refl
  where
    by_row : (r : Option TaskRow) → task_of base t ≡ r → bots_of y ≡ option_map_or bots_of r [] ++ claimants t log
    by_row None e = claims_none base log t o c (λ x b m. cc (find_none (is_task t) base.tasks e x b, eq-eqb x.no t m)) y a n
    by_row (Some x) e =
        (let g : Found (is_task t) base.tasks x = find_is (is_task t) base.tasks x e in
        let f : Tracked (λ (z : TaskRow). bots_of z ≡ bots_of x ++ claimants t log) (replay base log) t = claims_from base log o c x t g.among (eqb-true x.no t g.passes) in
        let one : f.row ≡ y = one_task (replay base log) (sound_replay base log o c) f.row y f.among a (f.named ∙ sym n) in
        ap bots_of (sym one) ∙ f.holds)

-- so a task that waits in the end has the runs of its claims
claims_since : (base : PoolState) (log : List Entry) (t : ℕ) → IsSound base → IsCaused base log → HasTask (replay base log) t waits → (y : TaskRow) → Among y (replay base log).tasks → y.no ≡ t → bots_of y ≡ claimants t (before base t ++ log)
claims_since base log t o c w y a n = by_row (in_base base t)
  where
    -- it went on in the base
    went_on : (x : TaskRow) → Among x base.tasks → x.no ≡ t → (b : Bool) → is_final x.state ≡ b → b ≡ false
    went_on x d m false e = refl
    went_on x d m true e =
        (let f : Tracked (λ (z : TaskRow). z ≡ x) (replay base log) t = track (λ (z : TaskRow). z ≡ x) (final_lasts x e) base log o c x t d m refl in
        let one : f.row ≡ w.task = one_task (replay base log) (sound_replay base log o c) f.row w.task f.among w.among (f.named ∙ sym w.named) in
        absurd (cc (ap waits (sym f.holds ∙ one) ∙ w.passes, not_pending x.state e)))

    by_row : InBase base t → bots_of y ≡ claimants t (before base t ++ log)
    by_row (no_row none is) = claims_none base log t o c none y a n ∙ ap (λ (l : List Entry). claimants t (l ++ log)) (sym is)
    by_row (row x b m is) =
        (let f : Tracked (λ (z : TaskRow). bots_of z ≡ bots_of x ++ claimants t log) (replay base log) t = claims_from base log o c x t b m in
        let one : f.row ≡ y = one_task (replay base log) (sound_replay base log o c) f.row y f.among a (f.named ∙ sym n) in
        ap bots_of (sym one) ∙ f.holds
        ∙ sym (subst (λ (k : ℕ). claimants k (entries_of x ++ log) ≡ bots_of x ++ claimants k log) m (row_claims x log (went_on x b m (is_final x.state) refl)))
        ∙ ap (λ (l : List Entry). claimants t (l ++ log)) (sym is))

pub runs_from : RunsFromABase
runs_from base log o c =
    let s : PoolState = replay base log in
    let sound : IsSound s = sound_replay base log o c in
    all (HasRightRunsSince base s log) s.tasks (λ task a.
    record { bots = sym (bots_since base log task.no o c task a refl); retried = (task_is s sound task a).retried; tries = (task_is s sound task a).tries })

pub right_claims_from : ClaimsFromABase
right_claims_from base log e b t id o c follows is =
    let s : PoolState = replay base log in
    let sound : IsSound s = sound_replay base log o c in
    let f : FindsClaim s b t id = subst (Finds s) is (finds s e follows) in
    right_by s (before base t ++ log) e.moment e.pass b t id sound (claims_since base log t o c (claim_waits s b t id f)) (none_due s e follows (ap is_deadline is)) f
