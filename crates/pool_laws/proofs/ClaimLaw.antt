-- A claim that may follow a log is right.
use Rattle.std.proofs.Common.{◌≡◌, ◌≢◌, ℕ, ◌==◌, ◌&&◌, not, List, [], ◌∷◌, ◌++◌, map, refl, ap, sym, ◌∙◌, subst, true, false, Bool, Option, Some, None, IfSome, IsTrue, is_none, eqb-true, filter, arith}
use Rattle.std.specs.Prelude.{MatchOption}
use Rattle.std.specs.List.{All}
use Rattle.std.specs.Option.{option_map, option_map_or, option_to_list}
use Rattle.std.proofs.lemmas.Bool.{cond_both, and_parts, eqb-false}
use Rattle.dimensions.specs.Matching.{matches}
use Rattle.dimensions.specs.Choosing.{when, ◌or_else◌}
use Rattle.dimensions.specs.Rules.{is_empty}
use Rattle.pool_laws.specs.Types.{BotDims, Slice, TaskState, Pending, Attempt, Retried, PoolSettings, TaskRow, PoolState, Entry, EntryKind, Outcome}
use Rattle.swarm_model.specs.declared.rule.Unfit.TheVariants as unfit
use Rattle.swarm_model.specs.declared.entry.EntryKind.TheVariants as kind
use Rattle.swarm_model.specs.declared.entry.Outcome.TheVariants as outcome
use Rattle.swarm_model.specs.Finding.{is_state}
use Rattle.swarm_model.specs.Deadlines.{next_of}
use Rattle.swarm_model.specs.Slices.{waits_for, is_kept_from, takes_slice, current_slice}
use Rattle.swarm_model.specs.Deadlines.{due_entry}
use Rattle.swarm_model.specs.Entries.{is_deadline}
use Rattle.swarm_model.specs.Effects.{opening, after, started_run, task_after, added_tasks, expired_slice, is_first_run, is_idempotent, retried_from, killed, with_chunk, with_last_report}
use Rattle.swarm_model.specs.History.{replay, IsCaused}
use Rattle.swarm_model.specs.Soundness.{IsSound, IsRightTry, runner}
use Rattle.swarm_model.specs.Claims.{claimants, bots_in, bots_of, ComesFirst, HasRightRuns, IsRightClaim, ClaimsAreRight, RunsAreRight}
use Rattle.pool_laws.proofs.Lists.{Among, Found, all, among_right, filter_has}
use Rattle.pool_laws.proofs.Earliest.{none_come}
use Rattle.swarm_model.specs.Verdicts.{claimant, state_at_start}
use Rattle.pool_laws.proofs.Numbers.{task_no}
use Rattle.pool_laws.proofs.Phases.{turn_true, turn_false}
use Rattle.pool_laws.proofs.VerdictLaw.{NoRow, no_row_after, silent, starts}
use Rattle.pool_laws.proofs.Preconditions.{Finds, FindsClaim, waits}
use Rattle.pool_laws.proofs.EntryPreconditions.{finds, none_due}
use Rattle.pool_laws.proofs.Rows.{one_task, find_task, find_bot, task_is, row_is, task_by, lost_is, fits_in, claim_gets, claim_waits, claim_not_kept}
use Rattle.pool_laws.proofs.Runs.{idle_bot}
use Rattle.pool_laws.proofs.Sound.{sound_after, sound_replay, opening_sound}
use Rattle.pool_laws.proofs.Tracks.{Tracked, still_among}
use Rattle.pool_laws.proofs.Order.{comes_first, foremost_first}

-- a change of a run that keeps its bot
bots_map : (change : Attempt → Attempt) → ((a : Attempt) → (change a).bot ≡ a.bot) → (o : Option Retried) (r : Option Attempt) → bots_in o (option_map change r) ≡ bots_in o r
bots_map change e o None = refl
bots_map change e None (Some a) = ap (λ n. n ∷ []) (e a)
bots_map change e (Some lost) (Some a) = ap (λ n. lost.attempt.bot ∷ n ∷ []) (e a)

-- a run that is tried again was the first
bots_tried : (m slice : ℕ) (o : Option Retried) (r : Option Attempt) → is_first_run r ≡ true → IfSome r (IsRightTry o) → bots_in (option_map (retried_from m slice) r) None ≡ bots_in o r
bots_tried m slice o None first h = absurd (cc (first))
bots_tried m slice None (Some a) first h = refl
bots_tried m slice (Some lost) (Some a) first h =
    let one : a.try_no ≡ 1 = eqb-true a.try_no 1 (and_parts (a.try_no == 1) (not a.kill) first).0 in
    let two : a.try_no ≡ 2 = h.0 in
    absurd (omega (arith, one, two))

-- a run that begins comes behind
bots_begun : (o : Option Retried) (r : Option Attempt) (a : Attempt) → is_none r ≡ true → bots_in o (Some a) ≡ bots_in o r ++ a.bot ∷ []
bots_begun None None a h = refl
bots_begun (Some lost) None a h = refl
bots_begun o (Some b) a h = absurd (cc (h))

abbrev is_claiming : EntryKind → Bool
is_claiming (kind.Claim b t id) = true
is_claiming entry = false

-- only a claim adds one
bots_same : (s : PoolState) (m : ℕ) (k : EntryKind) → IsSound s → Finds s k → is_claiming k ≡ false → (x : TaskRow) → Among x s.tasks → bots_of (task_after s m k x) ≡ bots_of x
bots_same s m k o f q x a =
    task_by (λ (y : TaskRow). bots_of y ≡ bots_of x) s m o x a k f (record {
      same = refl;
      moves = λ w. by_outcome (next_of s x);
      loses = λ w. lost_is (λ (y : TaskRow). bots_of y ≡ bots_of x) s.settings.retries m x
          (λ t. bots_tried m x.slice x.retried x.attempt (and_parts (is_first_run x.attempt) (is_idempotent x) (and_parts (s.settings.retries == 1) _ t).1).0 (task_is s o x a).tries) (λ t. refl);
      begins = λ b t id is found w own. absurd (cc (q, ap is_claiming is));
      cancels = λ w. refl;
      marks = λ w. bots_map killed (λ a. refl) x.retried x.attempt;
      grows = λ chunk fresh g w. bots_map (with_chunk chunk) (λ a. refl) x.retried x.attempt;
      finishes = λ chunk last report y w e. bots_map (with_last_report chunk last) (λ a. refl) y.retried y.attempt ∙ e;
    })
  where
    by_outcome : (to : Outcome) → bots_of (expired_slice m to x) ≡ bots_of x
    by_outcome (outcome.Slice place) = refl
    by_outcome (outcome.Ended state) = refl

-- a task that waits has no run
waits_idle : (state : TaskState) (attempt : Option Attempt) (ended : Option ℕ) → fits_in state attempt ended ≡ true → is_state state Pending ≡ true → is_none attempt ≡ true
waits_idle Pending attempt ended h w = (and_parts (is_none attempt) (is_none ended) h).0
waits_idle state attempt ended h w = absurd (cc (w))

no_more : (xs : List ℕ) → xs ≡ xs ++ []
no_more [] = refl
no_more (x ∷ xs) = ap (λ ys. x ∷ ys) (no_more xs)

-- each entry
bots_after : (s : PoolState) (m : ℕ) (k : EntryKind) → IsSound s → Finds s k → (x : TaskRow) → Among x s.tasks → bots_of (task_after s m k x) ≡ bots_of x ++ option_to_list (claimant x.no k)
bots_after s m (kind.Claim b t id) o f x a =
    cond_both (x.no == t) (started_run m b id x) x (λ (y : TaskRow). bots_of y ≡ bots_of x ++ option_to_list (when (t == x.no) b))
    (λ n. rw (turn_true x.no t n) (bots_begun x.retried x.attempt _ (waits_idle x.state x.attempt x.ended (task_is s o x a).state (row_is s o t waits (claim_waits s b t id f) x a n))))
    (λ n. rw (turn_false x.no t n) (no_more (bots_of x)))
bots_after s m k o f x a = bots_same s m k o f refl x a ∙ no_more (bots_of x)

-- the claims of the rest of a log come behind
claims-cons : (t : ℕ) (e : Entry) (log : List Entry) → claimants t (e ∷ log) ≡ option_to_list (claimant t e.kind) ++ claimants t log
claims-cons t e log = by_claim (claimant t e.kind) refl
  where
    by_claim : (c : Option ℕ) → claimant t e.kind ≡ c → claimants t (e ∷ log) ≡ option_to_list c ++ claimants t log
    by_claim None g = rw g refl
    by_claim (Some b) g = rw g refl

append_assoc : (xs ys zs : List ℕ) → (xs ++ ys) ++ zs ≡ xs ++ (ys ++ zs)
append_assoc [] ys zs = refl
append_assoc (x ∷ xs) ys zs = ap (λ l. x ∷ l) (append_assoc xs ys zs)

-- from a row on
pub claims_from : (s : PoolState) (log : List Entry) → IsSound s → IsCaused s log → (x : TaskRow) (n : ℕ) → Among x s.tasks → x.no ≡ n → Tracked (λ (y : TaskRow). bots_of y ≡ bots_of x ++ claimants n log) (replay s log) n
claims_from s [] o c x n a e = record { row = x; among = a; named = e; holds = no_more (bots_of x) }
claims_from s (e ∷ log) o c x n a i =
    let f = finds s e c.0 in
    let y : TaskRow = task_after s e.moment e.kind x in
    let next : IsSound (after s e) = sound_after s e o c.0 in
    let g : Tracked (λ (z : TaskRow). bots_of z ≡ bots_of y ++ claimants n log) (replay (after s e) log) n = claims_from (after s e) log next c.1 y n (still_among s e x a) (task_no s e.moment e.kind o f x a ∙ i) in
    record {
      row = g.row;
      among = g.among;
      named = g.named;
      holds = g.holds
          ∙ ap (λ l. l ++ claimants n log) (bots_after s e.moment e.kind o f x a ∙ ap (λ k. bots_of x ++ option_to_list (claimant k e.kind)) i)
          ∙ append_assoc (bots_of x) (option_to_list (claimant n e.kind)) (claimants n log)
          ∙ ap (λ l. bots_of x ++ l) (sym (claims-cons n e log));
    }

-- before the row is there, no claim of it comes
pub claims_none : (s : PoolState) (log : List Entry) (t : ℕ) → IsSound s → IsCaused s log → NoRow s t → (y : TaskRow) → Among y (replay s log).tasks → y.no ≡ t → bots_of y ≡ claimants t log
claims_none s [] t o c none y a n = absurd (none y a n)
claims_none s (e ∷ log) t o c none y a n = by_start (λ none_yet. claims_none (after s e) log t next c.1 none_yet y a n) (state_at_start t e.kind) refl
  where
    next : IsSound (after s e)
    next = sound_after s e o c.0

    by_start : (NoRow (after s e) t → bots_of y ≡ claimants t log) → (z : Option TaskState) → state_at_start t e.kind ≡ z → bots_of y ≡ claimants t (e ∷ log)
    by_start rest None g =
        (let q = silent s e.kind t none (finds s e c.0) g in
        rest (no_row_after s e t o (finds s e c.0) none g) ∙ ap (λ z. option_to_list z ++ claimants t log) (sym q.no_claim) ∙ sym (claims-cons t e log))
    by_start rest (Some state) g =
        (let q = starts s e.moment e.kind t state (finds s e c.0) g in
        let b : Among q.row (after s e).tasks = among_right q.row (map (task_after s e.moment e.kind) s.tasks) (added_tasks e.moment e.kind) q.among in
        let f : Tracked (λ (z : TaskRow). bots_of z ≡ bots_of q.row ++ claimants t log) (replay (after s e) log) t = claims_from (after s e) log next c.1 q.row t b q.named in
        let one : f.row ≡ y = one_task (replay (after s e) log) (sound_replay (after s e) log next c.1) f.row y f.among a (f.named ∙ sym n) in
        ap bots_of (sym one) ∙ f.holds ∙ ap (λ l. l ++ claimants t log) (ap (λ z. bots_in z q.row.attempt) q.no_run.0 ∙ ap (bots_in None) q.no_run.1) ∙ ap (λ z. option_to_list z ++ claimants t log) (sym q.no_claim) ∙ sym (claims-cons t e log))

-- the claims of a task are those of its runs
pub claims_are : (settings : PoolSettings) (log : List Entry) (t : ℕ) (task : TaskRow) → IsCaused (opening settings) log → Among task (replay (opening settings) log).tasks → task.no ≡ t → bots_of task ≡ claimants t log
claims_are settings log t task c a n = claims_none (opening settings) log t (opening_sound settings) c (λ x a n. elim a [ ]) task a n

-- so the runs of each task are right
pub runs_right : RunsAreRight
runs_right settings log c =
    let s : PoolState = replay (opening settings) log in
    let o : IsSound s = sound_replay (opening settings) log (opening_sound settings) c in
    all (HasRightRuns s log) s.tasks (λ task a.
    record { bots = sym (claims_are settings log task.no task c a refl); retried = (task_is s o task a).retried; tries = (task_is s o task a).tries })

-- a task that waits was claimed by the bot whose run is tried again, or never
earlier_claims : (log : List Entry) (t b : ℕ) (o : Option Retried) (r : Option Attempt) → is_none r ≡ true → bots_in o r ≡ claimants t log → option_map_or (λ (other : ℕ). other == b) (option_map (λ (lost : Retried). lost.attempt.bot) o) false ≡ false →
    MatchOption o (claimants t log ≡ []) (λ lost. (claimants t log ≡ lost.attempt.bot ∷ []) × (lost.attempt.bot ≢ b))
earlier_claims log t b o (Some a) idle e kept = absurd (cc (idle))
earlier_claims log t b None None idle e kept = sym e
earlier_claims log t b (Some lost) None idle e kept = (sym e, eqb-false lost.attempt.bot b kept)

-- a bot that is not unfit is fit
fit_by : (d q t : Bool) → (when d unfit.Dead or_else when (not q) unfit.Quarantined or_else when t unfit.Terminating) ≡ None → (not d && (q && not t)) ≡ true
fit_by true q t e = absurd (cc (e))
fit_by false false t e = absurd (cc (e))
fit_by false true true e = absurd (cc (e))
fit_by false true false e = refl

-- a slice that is taken is there, and matches
record Takes (dims : BotDims) (o : Option Slice) : Type 0 where
  slice : Slice
  is : o ≡ Some slice
  fits : matches dims slice.properties.dimensions ≡ true

-- and no other is taken
takes : (dims : BotDims) (o : Option Slice) → takes_slice dims o ≡ true → Takes dims o
takes dims None e = absurd (cc (e))
takes dims (Some slice) e = record { slice = slice; is = refl; fits = e }

-- what a claim finds makes it right
pub right_by : (s : PoolState) (log : List Entry) (moment pass b t : ℕ) (id : List ℕ) → IsSound s → ((x : TaskRow) → Among x s.tasks → x.no ≡ t → bots_of x ≡ claimants t log) → due_entry s moment pass ≡ None → FindsClaim s b t id → IsRightClaim s log moment b t
right_by s log moment pass b t id o told none f =
    let g : Found (waits_for f.bot.no f.bot.dims) s.tasks f.task = claim_gets s b t id f in
    let parts = and_parts (waits f.task) (takes_slice f.bot.dims (current_slice f.task) && not (is_kept_from f.bot.no f.task)) g.passes in
    let both = and_parts (takes_slice f.bot.dims (current_slice f.task)) (not (is_kept_from f.bot.no f.task)) parts.1 in
    let taken : Takes f.bot.dims (current_slice f.task) = takes f.bot.dims (current_slice f.task) both.0 in
    record {
      nothing_due = none_come s moment pass none;
      bot = f.bot;
      is_bot = find_bot s o f.bot b f.among f.named;
      fit = fit_by f.bot.dead (is_empty f.bot.quarantined) f.bot.terminating f.fit;
      idle = all (λ (task : TaskRow). runner task ≢ Some b) s.tasks (λ task a r. idle_bot s o f.bot f.among f.idle task a (r ∙ ap (λ n. Some n) (sym f.named)));
      task = f.task;
      is_task = find_task s o f.task t g.among f.task_named;
      earlier = earlier_claims log t b f.task.retried f.task.attempt (waits_idle f.task.state f.task.attempt f.task.ended (task_is s o f.task g.among).state parts.0) (told f.task g.among f.task_named) (claim_not_kept s b t id f f.task refl);
      pending = parts.0;
      slice = taken.slice;
      is_slice = taken.is;
      matches = taken.fits;
      foremost = subst (λ (n : ℕ). All (λ (other : TaskRow). IsTrue (waits_for n f.bot.dims other) → ComesFirst f.task other) s.tasks) f.named
          (all (λ (other : TaskRow). IsTrue (waits_for f.bot.no f.bot.dims other) → ComesFirst f.task other) s.tasks
          (λ other a w. comes_first f.task other (foremost_first (filter (waits_for f.bot.no f.bot.dims) s.tasks) f.task f.gets other (filter_has (waits_for f.bot.no f.bot.dims) s.tasks other a w))));
    }

-- so each claim is right
pub claims_right : ClaimsAreRight
claims_right settings log e b t id c follows is =
    let s : PoolState = replay (opening settings) log in
    let o : IsSound s = sound_replay (opening settings) log (opening_sound settings) c in
    let f : FindsClaim s b t id = subst (Finds s) is (finds s e follows) in
    right_by s log e.moment e.pass b t id o (λ x a n. claims_are settings log t x c a n) (none_due s e follows (ap is_deadline is)) f
