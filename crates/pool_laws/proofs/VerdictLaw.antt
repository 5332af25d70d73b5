-- The verdict of a log is the state of the row.
use Rattle.std.proofs.Common.{◌≡◌, ℕ, ◌==◌, List, [], ◌∷◌, refl, ap, sym, ◌∙◌, subst, true, false, Bool, Option, Some, None, eqb-true, map}
use Rattle.std.specs.Prelude.{if◌then◌else◌}
use Rattle.std.specs.Option.{option_map, option_or}
use Rattle.std.proofs.lemmas.Bool.{eq-eqb, or_from}
use Rattle.std.proofs.lemmas.Option.{same_Some}
use Rattle.dimensions.specs.Choosing.{when}
use Rattle.pool_laws.specs.Types.{TaskState, Running, TaskRow, PoolState, PoolSettings, Entry, EntryKind}
use Rattle.swarm_model.specs.declared.entry.EntryKind.TheVariants as kind
use Rattle.swarm_model.specs.declared.entry.Outcome.TheVariants as outcome
use Rattle.swarm_model.specs.Words.{◌otherwise◌}
use Rattle.swarm_model.specs.Finding.{is_state, is_task}
use Rattle.swarm_model.specs.Effects.{opening, after, task_after, added_tasks, new_row}
use Rattle.swarm_model.specs.History.{replay, IsCaused}
use Rattle.swarm_model.specs.Soundness.{IsSound}
use Rattle.swarm_model.specs.Verdicts.{Told, nothing_told, told_by, may_try_again, verdict, run_verdict, start_verdict, final_only, claimant, slice_state, is_cancel, state_at_start, VerdictsAreStates}
use Rattle.pool_laws.proofs.Lists.{Among, here, Found, find_is, each_one, each_append, each_map, among_right}
use Rattle.pool_laws.proofs.Preconditions.{Finds, HasTask, waits}
use Rattle.pool_laws.proofs.EntryPreconditions.{finds}
use Rattle.pool_laws.proofs.Rows.{one_task, row_is, claim_waits}
use Rattle.pool_laws.proofs.Bots.{settings_same}
use Rattle.pool_laws.proofs.Numbers.{task_no}
use Rattle.pool_laws.proofs.Sound.{sound_after, sound_replay, opening_sound}
use Rattle.pool_laws.proofs.Tracks.{Tracked, still_among}
use Rattle.pool_laws.proofs.Phases.{Phase, Waiting, RunBy, Over, told_of, phase, phase_in, state_of_phase, next_phase, left_wait, run_is_by}
use Rattle.pool_laws.proofs.PhaseSteps.{phase_after, run_quiet}
use Rattle.pool_laws.proofs.VerdictFrom.{cancels, verdict_from, wait_step, wait_skip, IsLeft, IsQuiet, NoneComes, left_stays, from_step, from_end_is, from_start}

-- once a task does not come to wait again, no claim and no cancel of it comes

-- what holds of a row that is left so
abbrev IsPast : ℕ → TaskRow → Type 0
IsPast r x = IsLeft r (phase x)

-- it does not wait
past_waits : (r : ℕ) (x : TaskRow) → IsPast r x → waits x ≡ false
past_waits r x l = left_wait x.state x.attempt (told_of x) (λ was e. subst (IsLeft r) e l)

-- an entry on a task that waits is one on another task
differs : (s : PoolState) (u t r : ℕ) → IsSound s → HasTask s u waits → Tracked (IsPast r) s t → (u == t) ≡ false
differs s u t r o w g = by_test (u == t) refl
  where
    by_test : (b : Bool) → (u == t) ≡ b → b ≡ false
    by_test false e = refl
    by_test true e = absurd (cc (row_is s o u waits w g.row g.among (eq-eqb g.row.no u (g.named ∙ sym (eqb-true u t e))), past_waits r g.row g.holds))

says_none : (s : PoolState) (k : EntryKind) (t r : ℕ) → IsSound s → Finds s k → Tracked (IsPast r) s t → (claimant t k ≡ None) × (is_cancel t k ≡ false)
says_none s (kind.Claim b u id) t r o f g = (ap (λ c. when c b) (differs s u t r o (claim_waits s b u id f) g), refl)
says_none s (kind.Cancel u) t r o f g = (refl, differs s u t r o f g)
says_none s k t r o f g = (refl, refl)

past_after : (s : PoolState) (e : Entry) (t r : ℕ) → s.settings.retries ≡ r → IsSound s → Finds s e.kind → Tracked (IsPast r) s t → Tracked (IsPast r) (after s e) t
past_after s e t r same o f g =
    record {
      row = task_after s e.moment e.kind g.row;
      among = still_among s e g.row g.among;
      named = task_no s e.moment e.kind o f g.row g.among ∙ g.named;
      holds = subst (IsLeft r) (sym (phase_after s e.moment e.kind o f g.row g.among ∙ ap (λ n. next_phase n g.row.no e.kind (phase g.row)) same)) (left_stays r g.row.no e.kind (phase g.row) g.holds);
    }

-- an entry changes no setting
retries_same : (s : PoolState) (e : Entry) (r : ℕ) → s.settings.retries ≡ r → (after s e).settings.retries ≡ r
retries_same s e r same = ap (λ (settings : PoolSettings). settings.retries) (settings_same s e.moment e.kind) ∙ same

none_comes : (s : PoolState) (log : List Entry) (t r : ℕ) → s.settings.retries ≡ r → IsSound s → IsCaused s log → Tracked (IsPast r) s t → NoneComes r t log
none_comes s [] t r same o c g = (λ told. refl, refl)
none_comes s (e ∷ log) t r same o c g =
    let f = finds s e c.0 in
    let n = says_none s e.kind t r o f g in
    let rest = none_comes (after s e) log t r (retries_same s e r same) (sound_after s e o c.0) c.1 (past_after s e t r same o f g) in (
      λ told. ap (λ z. option_or z (option_map (λ b. run_verdict t b (may_try_again r told) false log) (claimant t e.kind))) (rest.0 (told_by t e.kind told))
          ∙ ap (option_map (λ b. run_verdict t b (may_try_again r told) false log)) n.0,
      or_from (is_cancel t e.kind) (cancels t log) n.1 rest.1,
    )

-- from a row on

-- what an entry says of a run
quiet_of : (s : PoolState) (m : ℕ) (k : EntryKind) (o : IsSound s) → Finds s k → (x : TaskRow) → Among x s.tasks → IsQuiet x.no k (phase x)
quiet_of s m k o f x a = by_phase (phase x) refl
  where
    by_phase : (p : Phase) → phase x ≡ p → IsQuiet x.no k p
    by_phase (Waiting was) e = tt
    by_phase (RunBy b q was) e = run_quiet s m o x a b q (run_is_by x.state x.attempt (told_of x) was b q e).0 k f
    by_phase (Over state) e = tt

pub from_row : (s : PoolState) (log : List Entry) (r : ℕ) → s.settings.retries ≡ r → IsSound s → IsCaused s log → (x : TaskRow) (n : ℕ) → Among x s.tasks → x.no ≡ n →
    Tracked (λ (y : TaskRow). verdict_from r n (phase x) log ≡ y.state) (replay s log) n
from_row s [] r same o c x n a e = record { row = x; among = a; named = e; holds = from_end_is r n (phase x) ∙ state_of_phase x.state x.attempt (told_of x) }
from_row s (e ∷ log) r same o c x n a i =
    let f = finds s e c.0 in
    let y : TaskRow = task_after s e.moment e.kind x in
    let next : IsSound (after s e) = sound_after s e o c.0 in
    let b : Among y (after s e).tasks = still_among s e x a in
    let j : y.no ≡ n = task_no s e.moment e.kind o f x a ∙ i in
    let p : phase y ≡ next_phase r n e.kind (phase x) = phase_after s e.moment e.kind o f x a ∙ ap (λ k. next_phase k x.no e.kind (phase x)) same ∙ ap (λ k. next_phase r k e.kind (phase x)) i in
    let later : (after s e).settings.retries ≡ r = retries_same s e r same in
    let g : Tracked (λ (z : TaskRow). verdict_from r n (phase y) log ≡ z.state) (replay (after s e) log) n = from_row (after s e) log r later next c.1 y n b j in
    let none : IsLeft r (next_phase r n e.kind (phase x)) → NoneComes r n log
    = λ l. none_comes (after s e) log n r later next c.1 (record { row = y; among = b; named = j; holds = subst (IsLeft r) (sym p) l }) in
    let quiet : IsQuiet n e.kind (phase x) = subst (λ k. IsQuiet k e.kind (phase x)) i (quiet_of s e.moment e.kind o f x a) in
    record { row = g.row; among = g.among; named = g.named; holds = from_step r n e log (phase x) quiet none ∙ ap (λ q. verdict_from r n q log) (sym p) ∙ g.holds }

-- before the row is there

-- the row of a task that an entry accepts
pub record Starts (m : ℕ) (k : EntryKind) (t : ℕ) (state : TaskState) : Type 0 where
  pub row : TaskRow
  pub among : Among row (added_tasks m k)
  pub named : row.no ≡ t
  pub no_run : (row.retried ≡ None) × (row.attempt ≡ None)
  pub told : Told
  pub is : phase row ≡ phase_in state None told
  pub tells : told_by t k nothing_told ≡ told
  pub idle : is_state state Running ≡ false
  pub no_claim : claimant t k ≡ None
  pub no_cancel : is_cancel t k ≡ false
  pub no_slice : slice_state t k ≡ None

pub starts : (s : PoolState) (m : ℕ) (k : EntryKind) (t : ℕ) (state : TaskState) → Finds s k → state_at_start t k ≡ Some state → Starts m k t state
starts s m (kind.New u who request first slice from) t state f e = by_test (u == t) refl e
  where
    by_test : (b : Bool) → (u == t) ≡ b → when b first ≡ Some state → Starts m (kind.New u who request first slice from) t state
    by_test false g e = absurd (cc (e))
    by_test true g e =
        (let same : first ≡ state = same_Some _ _ e in
        record {
          row = new_row m u who request first slice from;
          among = here;
          named = eqb-true u t g;
          no_run = (refl, refl);
          told = record { slices = request.task_slices; place = slice; claimed = false };
          is = ap (λ q. phase_in q None (record { slices = request.task_slices; place = slice; claimed = false })) same;
          tells = ap (λ c. if c then record nothing_told { slices = request.task_slices; place = slice } else nothing_told) g;
          idle = ap (λ q. is_state q Running) (sym same) ∙ f.idle;
          no_claim = refl;
          no_cancel = refl;
          no_slice = refl;
        })
starts s m k t state f e = absurd (cc (e))

abbrev pub NoRow : PoolState → ℕ → Type 0
NoRow s t = (x : TaskRow) → Among x s.tasks → x.no ≡ t → ⊥

-- an entry that does not accept the task adds no row of it
not_added : (m : ℕ) (k : EntryKind) (t : ℕ) → state_at_start t k ≡ None → (x : TaskRow) → Among x (added_tasks m k) → x.no ≡ t → ⊥
not_added m (kind.New u who request first slice from) t e x a n =
    let u_is : u ≡ t = sym (each_one (λ (y : TaskRow). y.no ≡ u) (new_row m u who request first slice from) refl x a) ∙ n in
    cc (ap (λ b. when b first) (eq-eqb u t u_is), e)
not_added m k t e x a n = elim a [ ]

pub no_row_after : (s : PoolState) (e : Entry) (t : ℕ) → IsSound s → Finds s e.kind → NoRow s t → state_at_start t e.kind ≡ None → NoRow (after s e) t
no_row_after s e t o f none g =
    each_append (λ (x : TaskRow). x.no ≡ t → ⊥) (map (task_after s e.moment e.kind) s.tasks) (added_tasks e.moment e.kind)
    (each_map (λ (x : TaskRow). x.no ≡ t → ⊥) (task_after s e.moment e.kind) s.tasks (λ x a n. none x a (sym (task_no s e.moment e.kind o f x a) ∙ n))) (not_added e.moment e.kind t g)

-- an entry that finds another task says nothing of this one
unknown : (s : PoolState) (u t : ℕ) (test : TaskRow → Bool) → NoRow s t → HasTask s u test → (u == t) ≡ false
unknown s u t test none w = by_test (u == t) refl
  where
    by_test : (b : Bool) → (u == t) ≡ b → b ≡ false
    by_test false e = refl
    by_test true e = absurd (none w.task w.among (w.named ∙ eqb-true u t e))

pub record Silent (t : ℕ) (k : EntryKind) : Type 0 where
  pub no_claim : claimant t k ≡ None
  pub no_cancel : is_cancel t k ≡ false
  pub no_slice : slice_state t k ≡ None
  pub same : told_by t k nothing_told ≡ nothing_told

pub silent : (s : PoolState) (k : EntryKind) (t : ℕ) → NoRow s t → Finds s k → state_at_start t k ≡ None → Silent t k
silent s (kind.New u who request first slice from) t none f g = record { no_claim = refl; no_cancel = refl; no_slice = refl; same = by_test (u == t) g }
  where
    by_test : (b : Bool) → when b first ≡ None → (if b then record nothing_told { slices = request.task_slices; place = slice } else nothing_told) ≡ nothing_told
    by_test false e = refl
    by_test true e = absurd (cc (e))
silent s (kind.Claim b u id) t none f g =
    let d = unknown s u t waits none (claim_waits s b u id f) in
    record { no_claim = ap (λ c. when c b) d; no_cancel = refl; no_slice = refl; same = ap (λ c. if c then record nothing_told { claimed = true } else nothing_told) d }
silent s (kind.Cancel u) t none f g = record { no_claim = refl; no_cancel = unknown s u t waits none f; no_slice = refl; same = refl }
silent s (kind.Slice u (outcome.Ended state)) t none f g = record { no_claim = refl; no_cancel = refl; no_slice = ap (λ c. when c state) (unknown s u t waits none f.waiting); same = refl }
silent s (kind.Slice u (outcome.Slice place)) t none f g =
    record { no_claim = refl; no_cancel = refl; no_slice = refl; same = ap (λ c. if c then record nothing_told { place = place } else nothing_told) (unknown s u t waits none f.waiting) }
silent s k t none f g = record { no_claim = refl; no_cancel = refl; no_slice = refl; same = refl }

pub from_none : (settings : PoolSettings) (s : PoolState) (log : List Entry) (t : ℕ) → s.settings.retries ≡ settings.retries → IsSound s → IsCaused s log → NoRow s t → (y : TaskRow) → Among y (replay s log).tasks → y.no ≡ t →
    verdict settings log t ≡ y.state
from_none settings s [] t same o c none y a n = absurd (none y a n)
from_none settings s (e ∷ log) t same o c none y a n = by_start (λ none_yet. from_none settings (after s e) log t later next c.1 none_yet y a n) (state_at_start t e.kind) refl
  where
    r : ℕ
    r = settings.retries

    later : (after s e).settings.retries ≡ r
    later = retries_same s e r same

    next : IsSound (after s e)
    next = sound_after s e o c.0

    step : TaskState
    step = wait_step r t nothing_told (told_by t e.kind nothing_told) log (claimant t e.kind) (is_cancel t e.kind) (slice_state t e.kind)

    by_start : (NoRow (after s e) t → verdict settings log t ≡ y.state) → (z : Option TaskState) → state_at_start t e.kind ≡ z → verdict settings (e ∷ log) t ≡ y.state
    by_start rest None g =
        (let q = silent s e.kind t none (finds s e c.0) g in
        ap (λ z. final_only (option_or z (start_verdict t log)) otherwise step) g
        ∙ ap (λ w. final_only (start_verdict t log) otherwise w) (wait_skip r t nothing_told nothing_told (told_by t e.kind nothing_told) log (claimant t e.kind) (is_cancel t e.kind) (slice_state t e.kind) q.no_claim q.no_cancel q.no_slice q.same)
        ∙ rest (no_row_after s e t o (finds s e c.0) none g))
    by_start rest (Some state) g =
        (let q = starts s e.moment e.kind t state (finds s e c.0) g in
        let b : Among q.row (after s e).tasks = among_right q.row (map (task_after s e.moment e.kind) s.tasks) (added_tasks e.moment e.kind) q.among in
        let f : Tracked (λ (z : TaskRow). verdict_from r t (phase q.row) log ≡ z.state) (replay (after s e) log) t = from_row (after s e) log r later next c.1 q.row t b q.named in
        let one : f.row ≡ y = one_task (replay (after s e) log) (sound_replay (after s e) log next c.1) f.row y f.among a (f.named ∙ sym n) in
        ap (λ z. final_only (option_or z (start_verdict t log)) otherwise step) g
        ∙ ap (λ w. final_only (Some state) otherwise w) (wait_skip r t nothing_told q.told (told_by t e.kind nothing_told) log (claimant t e.kind) (is_cancel t e.kind) (slice_state t e.kind) q.no_claim q.no_cancel q.no_slice q.tells)
        ∙ from_start r t log state q.told q.idle ∙ ap (λ p. verdict_from r t p log) (sym q.is) ∙ f.holds ∙ ap (λ (z : TaskRow). z.state) one)

-- so it is with every task of a pool
pub verdict_is_state : VerdictsAreStates
verdict_is_state settings log t task c e =
    let f : Found (is_task t) (replay (opening settings) log).tasks task = find_is (is_task t) (replay (opening settings) log).tasks task e in
    from_none settings (opening settings) log t refl (opening_sound settings) c (λ x a n. elim a [ ]) task f.among (eqb-true task.no t f.passes)
