-- The verdict from a base on is the state of the row.
use Rattle.std.proofs.Common.{◌≡◌, ℕ, ◌==◌, List, [], ◌∷◌, ◌++◌, map, refl, ap, sym, ◌∙◌, subst, cond, true, false, Bool, Option, Some, None, IfSome, is_some, eqb-true}
use Rattle.std.specs.Prelude.{⊤, if◌then◌else◌}
use Rattle.std.specs.Option.{option_map_or, option_or}
use Rattle.std.proofs.lemmas.Bool.{eq-eqb}
use Rattle.dimensions.specs.Choosing.{when}
use Rattle.pool_laws.specs.Types.{NewTask, Slice, TaskState, Pending, Running, Attempt, Retried, TaskRow, PoolSettings, PoolState, Entry, EntryKind}
use Rattle.swarm_model.specs.declared.entry.EntryKind.TheVariants as kind
use Rattle.swarm_model.specs.declared.entry.Outcome.TheVariants as outcome
use Rattle.swarm_model.specs.Words.{◌otherwise◌}
use Rattle.swarm_model.specs.Answers.{entry_at}
use Rattle.swarm_model.specs.Finding.{is_state, is_final, is_task, task_of}
use Rattle.swarm_model.specs.Effects.{after, task_after, added_tasks}
use Rattle.swarm_model.specs.History.{replay, IsCaused}
use Rattle.swarm_model.specs.Soundness.{IsSound, IsSoundRetried}
use Rattle.swarm_model.specs.Verdicts.{Told, nothing_told, told_by, may_try_again, verdict, run_verdict, claim_verdict, start_verdict, final_only, state_at_start, claimant, is_cancel, slice_state}
use Rattle.pool_laws.proofs.Lists.{Among, Found, find_is, find_none, among_right}
use Rattle.pool_laws.proofs.EntryPreconditions.{finds}
use Rattle.pool_laws.proofs.Rows.{one_task, task_is, fits_in}
use Rattle.pool_laws.proofs.Sound.{sound_after, sound_replay}
use Rattle.pool_laws.proofs.Tracks.{Tracked, track}
use Rattle.pool_laws.proofs.Phases.{Waiting, RunBy, as_claimed_once, phase, phase_in, next_phase}
use Rattle.pool_laws.proofs.VerdictFrom.{verdict_from, wait_step, wait_skip, or_other, IsLeft, from_step, from_start}
use Rattle.pool_laws.proofs.VerdictLaw.{from_row, from_none, NoRow, silent, starts}
use Rattle.pool_laws.proofs.Finals.{replay_parts, caused_first, caused_rest}
use Rattle.swarm_model.specs.Before.{accepted_in, accepted_at, lost_before, run_before, entries_of, before, verdict_since}

-- what is told of a task
abbrev told_at : List Slice → ℕ → Bool → Told
told_at slices place claimed = record { slices = slices; place = place; claimed = claimed }

-- ---- entry by entry

-- a task is accepted
accepts : (settings : PoolSettings) (t : ℕ) (who : List ℕ) (request : NewTask) (state : TaskState) (slice : ℕ) (from : Option ℕ) (log : List Entry) → is_state state Running ≡ false →
    verdict settings (entry_at 0 0 (kind.New t who request state slice from) ∷ log) t ≡ verdict_from settings.retries t (phase_in state None (told_at request.task_slices slice false)) log
accepts settings t who request state slice from log idle =
    ap (λ z. final_only (option_or z (start_verdict t log)) otherwise step) (ap (λ c. when c state) own)
    ∙ ap (λ w. final_only (Some state) otherwise w) (wait_skip settings.retries t nothing_told told (told_by t entry nothing_told) log (claimant t entry) (is_cancel t entry) (slice_state t entry) refl refl refl tells)
    ∙ from_start settings.retries t log state told idle
  where
    entry : EntryKind
    entry = kind.New t who request state slice from

    told : Told
    told = told_at request.task_slices slice false

    own : (t == t) ≡ true
    own = eq-eqb t t refl

    tells : told_by t entry nothing_told ≡ told
    tells = ap (λ c. if c then told_at request.task_slices slice false else nothing_told) own

    step : TaskState
    step = wait_step settings.retries t nothing_told (told_by t entry nothing_told) log (claimant t entry) (is_cancel t entry) (slice_state t entry)

module _ (r t : ℕ) (told : Told) (log : List Entry) where
  -- it is claimed
  claims : (b : ℕ) (id : List ℕ) → verdict_from r t (Waiting told) (entry_at 0 0 (kind.Claim b t id) ∷ log) ≡ verdict_from r t (RunBy b false told) log
  claims b id = rw (eq-eqb t t refl) (or_other (claim_verdict r t (as_claimed_once told) log) (Some (run_verdict t b (may_try_again r told) false log)) _)

  -- asked to stop
  stops : (b : ℕ) → verdict_from r t (RunBy b false told) (entry_at 0 0 (kind.Kill t) ∷ log) ≡ verdict_from r t (RunBy b true told) log
  stops b = rw (eq-eqb t t refl) (or_other (claim_verdict r t (as_claimed_once told) log) None _)

  -- lost, so that it waits again
  loses : (b : ℕ) → may_try_again r told ≡ true → verdict_from r t (RunBy b false told) (entry_at 0 0 (kind.Silence t) ∷ log) ≡ verdict_from r t (Waiting (as_claimed_once told)) log
  loses b again =
      from_step r t (entry_at 0 0 (kind.Silence t)) log (RunBy b false told) (refl, λ given. refl) (λ l. absurd (subst (IsLeft r) next l)) ∙ ap (λ p. verdict_from r t p log) next
    where
      next : next_phase r t (kind.Silence t) (RunBy b false told) ≡ Waiting (as_claimed_once told)
      next = rw (eq-eqb t t refl, again) refl

  -- and comes to another slice
  moves : (place : ℕ) → verdict_from r t (Waiting told) (entry_at 0 0 (kind.Slice t (outcome.Slice place)) ∷ log) ≡ verdict_from r t (Waiting (record told { place = place })) log
  moves place = rw (eq-eqb t t refl) (or_other (claim_verdict r t (record told { place = place }) log) None _)

-- ---- row by row

-- a run that was lost waits again
again : (s : PoolState) (slices : List Slice) (lost : Retried) → IsSoundRetried s slices lost → may_try_again s.settings.retries (told_at slices lost.slice false) ≡ true
again s slices lost h = rw (h.setting, h.is_slice, h.idempotent) refl

-- what is told up to the run that there is
lost_told : (s : PoolState) (t slice : ℕ) (slices : List Slice) (o : Option Retried) (rest : List EntryKind) (log : List Entry) → IfSome o (IsSoundRetried s slices) →
    verdict_from s.settings.retries t (Waiting (told_at slices (accepted_at slice o) false)) (map (entry_at 0 0) (lost_before t slice o ++ rest) ++ log)
    ≡ verdict_from s.settings.retries t (Waiting (told_at slices slice (is_some o))) (map (entry_at 0 0) rest ++ log)
lost_told s t slice slices None rest log h = refl
lost_told s t slice slices (Some lost) rest log h =
    claims r t (told_at slices lost.slice false) (entry_at 0 0 (kind.Silence t) ∷ moved (slice == lost.slice)) lost.attempt.bot lost.attempt.claim
    ∙ loses r t (told_at slices lost.slice false) (moved (slice == lost.slice)) lost.attempt.bot (again s slices lost h)
    ∙ by_slice (slice == lost.slice) refl
  where
    r : ℕ
    r = s.settings.retries

    moved : Bool → List Entry
    moved c = map (entry_at 0 0) (cond c [] (kind.Slice t (outcome.Slice slice) ∷ []) ++ rest) ++ log

    by_slice : (c : Bool) → (slice == lost.slice) ≡ c → verdict_from r t (Waiting (told_at slices lost.slice true)) (moved c) ≡ verdict_from r t (Waiting (told_at slices slice true)) (map (entry_at 0 0) rest ++ log)
    by_slice true e = ap (λ place. verdict_from r t (Waiting (told_at slices place true)) (map (entry_at 0 0) rest ++ log)) (sym (eqb-true slice lost.slice e))
    by_slice false e = moves r t (told_at slices lost.slice true) (map (entry_at 0 0) rest ++ log) slice

-- and of that run
run_told : (r t : ℕ) (a : Attempt) (told : Told) (log : List Entry) → verdict_from r t (Waiting told) (map (entry_at 0 0) (run_before t (Some a)) ++ log) ≡ verdict_from r t (RunBy a.bot a.kill told) log
run_told r t a told log = claims r t told (stopped a.kill) a.bot a.claim ∙ by_kill a.kill
  where
    stopped : Bool → List Entry
    stopped q = map (entry_at 0 0) (cond q (kind.Kill t ∷ []) []) ++ log

    by_kill : (q : Bool) → verdict_from r t (RunBy a.bot false told) (stopped q) ≡ verdict_from r t (RunBy a.bot q told) log
    by_kill true = stops r t told log a.bot
    by_kill false = refl

-- a row stands for the phase that its parts are in
told_is : (s : PoolState) (x : TaskRow) (t : ℕ) (state : TaskState) (attempt : Option Attempt) (o : Option Retried) (ended : Option ℕ) (log : List Entry) →
    fits_in state attempt ended ≡ true → IfSome o (IsSoundRetried s x.request.task_slices) →
    verdict s.settings
    (map (entry_at 0 0) (kind.New t x.creator x.request (accepted_in state) (accepted_at x.slice o) x.source ∷ (if is_final state then [] else lost_before t x.slice o ++ run_before t attempt)) ++ log) t
    ≡ verdict_from s.settings.retries t (phase_in state attempt (told_at x.request.task_slices x.slice (is_some o))) log
told_is s x t Pending (Some a) o ended log f h = absurd (cc (f))
told_is s x t Pending None o ended log f h =
    accepts s.settings t x.creator x.request Pending (accepted_at x.slice o) x.source (map (entry_at 0 0) (lost_before t x.slice o ++ []) ++ log) refl
    ∙ lost_told s t x.slice x.request.task_slices o [] log h
told_is s x t Running None o ended log f h = absurd (cc (f))
told_is s x t Running (Some a) o ended log f h =
    accepts s.settings t x.creator x.request Pending (accepted_at x.slice o) x.source (map (entry_at 0 0) (lost_before t x.slice o ++ run_before t (Some a)) ++ log) refl
    ∙ lost_told s t x.slice x.request.task_slices o (run_before t (Some a)) log h
    ∙ run_told s.settings.retries t a (told_at x.request.task_slices x.slice (is_some o)) log
told_is s x t state attempt o ended log f h = rw (eq-eqb t t refl) refl

row_told : (base : PoolState) (log : List Entry) (x : TaskRow) → IsSound base → Among x base.tasks → verdict base.settings (entries_of x ++ log) x.no ≡ verdict_from base.settings.retries x.no (phase x) log
row_told base log x o a = told_is base x x.no x.state x.attempt x.retried x.ended log (task_is base o x a).state (task_is base o x a).retried

-- what there is of a number in a base
pub data InBase (base : PoolState) (t : ℕ) : Type 0 where
  row : (x : TaskRow) → Among x base.tasks → x.no ≡ t → before base t ≡ entries_of x → InBase base t
  no_row : NoRow base t → before base t ≡ [] → InBase base t

pub in_base : (base : PoolState) (t : ℕ) → InBase base t
in_base base t = by_found (task_of base t) refl
  where
    by_found : (r : Option TaskRow) → task_of base t ≡ r → InBase base t
    by_found None e = no_row (λ x a n. cc (find_none (is_task t) base.tasks e x a, eq-eqb x.no t n)) (ap (λ r. option_map_or entries_of r []) e)
    by_found (Some x) e = (let f : Found (is_task t) base.tasks x = find_is (is_task t) base.tasks x e in row x f.among (eqb-true x.no t f.passes) (ap (λ r. option_map_or entries_of r []) e))

-- the verdict is the state of the row in the end
pub states_from : (base : PoolState) (log : List Entry) (t : ℕ) (task : TaskRow) → IsSound base → IsCaused base log → task_of (replay base log) t ≡ Some task → verdict_since base log t ≡ task.state
states_from base log t task o c e = by_row (in_base base t)
  where
    f : Found (is_task t) (replay base log).tasks task
    f = find_is (is_task t) (replay base log).tasks task e

    named : task.no ≡ t
    named = eqb-true task.no t f.passes

    by_row : InBase base t → verdict_since base log t ≡ task.state
    by_row (no_row none is) = ap (λ (l : List Entry). verdict base.settings (l ++ log) t) is ∙ from_none base.settings base log t refl o c none task f.among named
    by_row (row x a n is) =
        (let r : Tracked (λ (y : TaskRow). verdict_from base.settings.retries t (phase x) log ≡ y.state) (replay base log) t = from_row base log base.settings.retries refl o c x t a n in
        let same : r.row ≡ task = one_task (replay base log) (sound_replay base log o c) r.row task r.among f.among (r.named ∙ sym named) in
        ap (λ (l : List Entry). verdict base.settings (l ++ log) t) is
        ∙ subst (λ (k : ℕ). verdict base.settings (entries_of x ++ log) k ≡ verdict_from base.settings.retries k (phase x) log) n (row_told base log x o a)
        ∙ r.holds ∙ ap (λ (z : TaskRow). z.state) same)

-- ---- numbers without a row

-- a number that has no row in the end had none before
none_before : (s : PoolState) (log : List Entry) (t : ℕ) → IsSound s → IsCaused s log → NoRow (replay s log) t → NoRow s t
none_before s log t o c none x a n =
    let r : Tracked (λ (y : TaskRow). ⊤) (replay s log) t = track (λ (y : TaskRow). ⊤) (λ s m k o f y b p. tt) s log o c x t a n tt in
    none r.row r.among r.named

-- so no entry tells of it
none_told : (settings : PoolSettings) (s : PoolState) (log : List Entry) (t : ℕ) → IsSound s → IsCaused s log → NoRow (replay s log) t → verdict settings log t ≡ Pending
none_told settings s [] t o c none = refl
none_told settings s (e ∷ log) t o c none = by_start (none_told settings (after s e) log t next c.1 none) (state_at_start t e.kind) refl
  where
    next : IsSound (after s e)
    next = sound_after s e o c.0

    step : TaskState
    step = wait_step settings.retries t nothing_told (told_by t e.kind nothing_told) log (claimant t e.kind) (is_cancel t e.kind) (slice_state t e.kind)

    by_start : verdict settings log t ≡ Pending → (z : Option TaskState) → state_at_start t e.kind ≡ z → verdict settings (e ∷ log) t ≡ Pending
    by_start rest None g =
        (let q = silent s e.kind t (none_before s (e ∷ log) t o c none) (finds s e c.0) g in
        ap (λ z. final_only (option_or z (start_verdict t log)) otherwise step) g
        ∙ ap (λ w. final_only (start_verdict t log) otherwise w)
        (wait_skip settings.retries t nothing_told nothing_told (told_by t e.kind nothing_told) log (claimant t e.kind) (is_cancel t e.kind) (slice_state t e.kind) q.no_claim q.no_cancel q.no_slice q.same)
        ∙ rest)
    by_start rest (Some state) g =
        (let q = starts s e.moment e.kind t state (finds s e c.0) g in
        let b : Among q.row (after s e).tasks = among_right q.row (map (task_after s e.moment e.kind) s.tasks) (added_tasks e.moment e.kind) q.among in
        absurd (none_before (after s e) log t next c.1 none q.row b q.named))

no_row_told : (base : PoolState) (log : List Entry) (t : ℕ) → IsSound base → IsCaused base log → NoRow (replay base log) t → verdict_since base log t ≡ Pending
no_row_told base log t o c none = by_row (in_base base t)
  where
    by_row : InBase base t → verdict_since base log t ≡ Pending
    by_row (no_row first is) = ap (λ (l : List Entry). verdict base.settings (l ++ log) t) is ∙ none_told base.settings base log t o c none
    by_row (row x a n is) = absurd (none_before base log t o c none x a n)

-- ---- where the log is cut

-- both parts tell the same
pub rest_tells : (base : PoolState) (first rest : List Entry) (t : ℕ) → IsSound base → IsCaused base (first ++ rest) → verdict_since base (first ++ rest) t ≡ verdict_since (replay base first) rest t
rest_tells base first rest t o c = by_end (task_of (replay mid rest) t) refl
  where
    mid : PoolState
    mid = replay base first

    sound : IsSound mid
    sound = sound_replay base first o (caused_first base first rest c)

    goes_on : IsCaused mid rest
    goes_on = caused_rest base first rest c

    by_end : (r : Option TaskRow) → task_of (replay mid rest) t ≡ r → verdict_since base (first ++ rest) t ≡ verdict_since mid rest t
    by_end (Some x) e =
        states_from base (first ++ rest) t x o c (ap (λ (s : PoolState). task_of s t) (replay_parts base first rest) ∙ e)
        ∙ sym (states_from mid rest t x sound goes_on e)
    by_end None e =
        (let none : NoRow (replay mid rest) t = λ x a n. cc (find_none (is_task t) (replay mid rest).tasks e x a, eq-eqb x.no t n) in
        no_row_told base (first ++ rest) t o c (subst (λ (s : PoolState). NoRow s t) (sym (replay_parts base first rest)) none)
        ∙ sym (no_row_told mid rest t sound goes_on none))
