-- The rows gain no more weight than the entries have.
use Rattle.std.proofs.Common.{◌≡◌, ℕ, ◌+◌, ◌≤◌, ◌==◌, Bool, true, false, cond, List, [], ◌∷◌, ◌++◌, map, length, refl, sym, subst, arith, Option, Some, None, sum_by, eqb-true}
use Rattle.std.specs.Option.{option_map, option_map_or}
use Rattle.std.proofs.lemmas.Bool.{cond_both}
use Rattle.std.proofs.lemmas.List.Sums.{sum_by-cons, sum_by-append}
use Rattle.pool_laws.specs.Types.{Text, BotDims, Attempt, Chunk, Last, TaskRow, BotRow, PoolState, Entry, EventKind, EntryKind, Outcome}
use Rattle.swarm_model.specs.declared.entry.EventKind.TheVariants as event
use Rattle.swarm_model.specs.declared.entry.EntryKind.TheVariants as kind
use Rattle.swarm_model.specs.declared.entry.Outcome.TheVariants as outcome
use Rattle.swarm_model.specs.Numbers.{AreNumbered}
use Rattle.swarm_model.specs.Finding.{is_bot, bot_of}
use Rattle.swarm_model.specs.Entries.{weight, weight_of, task_weight, dims_weight, chunk_weight, last_weight}
use Rattle.swarm_model.specs.Effects.{no_of_task, no_of_bot, task_after, added_tasks, bot_after, added_bots, expired_slice, retried_from, lost_run, lost_run_at, canceled, killed, kill_marked, started_run, with_chunk, lengthened, with_last_report, ended_run, fresh_chunk, attempt_of, if_some, run_of_bot, runs_task, silent_bot, dead_bot, session_row, polled, assigned_bot, heard, event_effect, terminated, after}
use Rattle.swarm_model.specs.History.{replay, IsCaused}
use Rattle.swarm_model.specs.Soundness.{IsSound}
use Rattle.pool_laws.proofs.Lists.{Among, here, later, find_none, number_within}
use Rattle.pool_laws.proofs.Rows.{lost_is, reported_task, reporting_bot, update_task, update_bot}
use Rattle.pool_laws.proofs.Sound.{sound_after}
use Rattle.swarm_model.specs.StateWeight.{attempt_weight, retried_weight, task_row_weight, bot_row_weight, state_weight}
use Rattle.pool_laws.specs.BaseLaws.{WeightAfter}

-- ---- sums over changed rows

-- rows of which none gains
none_gain : {X : Type 0} (w : X → ℕ) (f : X → X) (xs : List X) → ((x : X) → Among x xs → w (f x) ≤ w x) → sum_by w (map f xs) ≤ sum_by w xs
none_gain w f [] less = omega arith
none_gain w f (x ∷ xs) less =
    let rest = none_gain w f xs (λ y a. less y (later a)) in
    let first = less x here in
    let new = sum_by-cons w (f x) (map f xs) in
    let old = sum_by-cons w x xs in
    omega (arith, rest, first, new, old)

-- rows numbered by place, of which the row of one number may gain
module _ {X : Type 0} (no w : X → ℕ) (f : X → X) (at gain : ℕ) where
  abbrev Gains : X → Type 0
  Gains x = w (f x) ≤ w x + cond (no x == at) gain 0

  other_gain : (x : X) (b : Bool) → (no x == at) ≡ b → (no x ≡ at → ⊥) → w (f x) ≤ w x + cond b gain 0 → w (f x) ≤ w x
  other_gain x true e d g = absurd (d (eqb-true (no x) at e))
  other_gain x false e d g = omega (arith, g)

  one_gains : (n : ℕ) (xs : List X) → AreNumbered no n xs → ((x : X) → Among x xs → Gains x) → sum_by w (map f xs) ≤ sum_by w xs + gain
  one_gains n [] c g = omega arith
  one_gains n (x ∷ xs) c g = by_test (no x == at) refl (g x here) (one_gains (n + 1) xs c.1 (λ y a. g y (later a)))
    where
      new : sum_by w (map f (x ∷ xs)) ≡ w (f x) + sum_by w (map f xs)
      new = sum_by-cons w (f x) (map f xs)

      old : sum_by w (x ∷ xs) ≡ w x + sum_by w xs
      old = sum_by-cons w x xs

      by_test : (b : Bool) → (no x == at) ≡ b → w (f x) ≤ w x + cond b gain 0 → sum_by w (map f xs) ≤ sum_by w xs + gain → sum_by w (map f (x ∷ xs)) ≤ sum_by w (x ∷ xs) + gain
      by_test false e first rest = omega (arith, first, rest, new, old)
      by_test true e first rest =
          (let own : no x ≡ at = eqb-true (no x) at e in
          let is : no x ≡ n = c.0 in
          let others : sum_by w (map f xs) ≤ sum_by w xs =
          none_gain w f xs (λ y a. other_gain y (no y == at) refl (λ d. let low = (number_within no (n + 1) xs c.1 y a).0 in omega (arith, own, is, d, low)) (g y (later a))) in
          omega (arith, first, others, new, old))

-- ---- tasks

-- what a report brings
abbrev report_gain : Option Chunk → Option Last → ℕ
report_gain chunk last = option_map_or chunk_weight chunk 0 + option_map_or last_weight last 0

-- what the row of a task gains by an entry
abbrev task_gain : EntryKind → ℕ
task_gain (kind.Claim b t claim) = length claim
task_gain (kind.Update b t try_no chunk last) = report_gain chunk last
task_gain entry = 0

-- a change of the row of one number that adds no weight
at_task : (t : ℕ) (y x : TaskRow) → task_row_weight y ≤ task_row_weight x → task_row_weight (cond (x.no == t) y x) ≤ task_row_weight x
at_task t y x less = cond_both (x.no == t) y x (λ (z : TaskRow). task_row_weight z ≤ task_row_weight x) (λ n. less) (λ n. omega arith)

slice_less : (m : ℕ) (to : Outcome) (x : TaskRow) → task_row_weight (expired_slice m to x) ≤ task_row_weight x
slice_less m (outcome.Slice place) x = omega arith
slice_less m (outcome.Ended state) x = omega arith

-- a run that is tried again weighs what it weighed
again_weight : (m slice : ℕ) (r : Option Attempt) → option_map_or retried_weight (option_map (retried_from m slice) r) 0 ≡ option_map_or attempt_weight r 0
again_weight m slice None = refl
again_weight m slice (Some a) = refl

-- and no run of before is lost twice, so a row whose run is lost gains nothing
lost_less : (retries m : ℕ) (x : TaskRow) → task_row_weight (lost_run retries m x) ≤ task_row_weight x
lost_less retries m x =
    lost_is (λ (y : TaskRow). task_row_weight y ≤ task_row_weight x) retries m x (λ t. let same = again_weight m x.slice x.attempt in omega (arith, same)) (λ t. omega arith)

-- what a change of an attempt adds to a row
attempt_grows : (change : Attempt → Attempt) (gain : ℕ) → ((a : Attempt) → attempt_weight (change a) ≤ attempt_weight a + gain) → (r : Option Attempt) →
    option_map_or attempt_weight (option_map change r) 0 ≤ option_map_or attempt_weight r 0 + gain
attempt_grows change gain grows None = omega arith
attempt_grows change gain grows (Some a) = grows a

killed_less : (x : TaskRow) → task_row_weight (kill_marked x) ≤ task_row_weight x
killed_less x = let its = attempt_grows killed 0 (λ a. omega arith) x.attempt in omega (arith, its)

longer_grows : (chunk : Chunk) (a : Attempt) → attempt_weight (with_chunk chunk a) ≤ attempt_weight a + chunk_weight chunk
longer_grows chunk a =
    let both = sum_by-append chunk_weight a.chunks (chunk ∷ []) in
    let one = sum_by-cons chunk_weight chunk [] in
    omega (arith, both, one)

lengthened_grows : (chunk : Chunk) (x : TaskRow) → task_row_weight (lengthened chunk x) ≤ task_row_weight x + chunk_weight chunk
lengthened_grows chunk x = let its = attempt_grows (with_chunk chunk) (chunk_weight chunk) (longer_grows chunk) x.attempt in omega (arith, its)

closed_grows : (chunk : Option Chunk) (last : Last) (a : Attempt) → attempt_weight (with_last_report chunk last a) ≤ attempt_weight a + last_weight last
closed_grows chunk last a = omega arith

ended_grows : (m : ℕ) (chunk : Option Chunk) (last : Last) (x : TaskRow) → task_row_weight (ended_run m chunk last x) ≤ task_row_weight x + last_weight last
ended_grows m chunk last x = let its = attempt_grows (with_last_report chunk last) (last_weight last) (closed_grows chunk last) x.attempt in omega (arith, its)

fresh_grows : (fresh : Option Chunk) (x : TaskRow) → task_row_weight (if_some lengthened fresh x) ≤ task_row_weight x + option_map_or chunk_weight fresh 0
fresh_grows None x = omega arith
fresh_grows (Some c) x = lengthened_grows c x

reported_grows : (m : ℕ) (fresh chunk : Option Chunk) (last : Option Last) (x : TaskRow) → task_row_weight (reported_task m fresh chunk last x) ≤ task_row_weight x + report_gain fresh last
reported_grows m fresh chunk None x = let first = fresh_grows fresh x in omega (arith, first)
reported_grows m fresh chunk (Some last) x =
    let first = fresh_grows fresh x in
    let second = ended_grows m chunk last (if_some lengthened fresh x) in
    omega (arith, first, second)

-- a fresh chunk is the one that was sent
fresh_light : (r : Option Attempt) (chunk : Option Chunk) → option_map_or chunk_weight (fresh_chunk r chunk) 0 ≤ option_map_or chunk_weight chunk 0
fresh_light None chunk = omega arith
fresh_light (Some a) None = omega arith
fresh_light (Some a) (Some c) = cond_both (c.start == a.length) (Some c) None (λ (r : Option Chunk). option_map_or chunk_weight r 0 ≤ chunk_weight c) (λ t. omega arith) (λ t. omega arith)

-- the row of one number
one_task_gains : (t gain : ℕ) (y x : TaskRow) → task_row_weight y ≤ task_row_weight x + gain → task_row_weight (cond (x.no == t) y x) ≤ task_row_weight x + cond (x.no == t) gain 0
one_task_gains t gain y x less = by_test (x.no == t)
  where
    by_test : (b : Bool) → task_row_weight (cond b y x) ≤ task_row_weight x + cond b gain 0
    by_test true = less
    by_test false = omega arith

tasks_gain : (s : PoolState) (m : ℕ) (k : EntryKind) → IsSound s → sum_by task_row_weight (map (task_after s m k) s.tasks) ≤ sum_by task_row_weight s.tasks + task_gain k
tasks_gain s m (kind.Slice t to) o =
    let less = none_gain task_row_weight (task_after s m (kind.Slice t to)) s.tasks (λ x a. at_task t (expired_slice m to x) x (slice_less m to x)) in omega (arith, less)
tasks_gain s m (kind.Silence t) o =
    let less = none_gain task_row_weight (task_after s m (kind.Silence t)) s.tasks (λ x a. at_task t (lost_run s.settings.retries m x) x (lost_less s.settings.retries m x)) in omega (arith, less)
tasks_gain s m (kind.Cancel t) o =
    let less = none_gain task_row_weight (task_after s m (kind.Cancel t)) s.tasks (λ x a. at_task t (canceled m x) x (omega arith)) in omega (arith, less)
tasks_gain s m (kind.Kill t) o =
    let less = none_gain task_row_weight (task_after s m (kind.Kill t)) s.tasks (λ x a. at_task t (kill_marked x) x (killed_less x)) in omega (arith, less)
tasks_gain s m (kind.Handshake b id session dims q) o =
    let less = none_gain task_row_weight (task_after s m (kind.Handshake b id session dims q)) s.tasks (λ x a. by_run (run_of_bot s b) x) in omega (arith, less)
  where
    by_run : (r : Option ℕ) (x : TaskRow) → task_row_weight (if_some (lost_run_at s.settings.retries m) r x) ≤ task_row_weight x
    by_run None x = omega arith
    by_run (Some t) x = at_task t (lost_run s.settings.retries m x) x (lost_less s.settings.retries m x)
tasks_gain s m (kind.Claim b t claim) o =
    one_gains no_of_task task_row_weight (task_after s m (kind.Claim b t claim)) t (length claim) 1 s.tasks o.tasks_numbered
    (λ x a. one_task_gains t (length claim) (started_run m b claim x) x (omega arith))
tasks_gain s m (kind.Update b t try_no chunk last) o =
    let fresh : Option Chunk = fresh_chunk (attempt_of s t) chunk in
    let light = fresh_light (attempt_of s t) chunk in
    one_gains no_of_task task_row_weight (task_after s m (kind.Update b t try_no chunk last)) t (report_gain chunk last) 1 s.tasks o.tasks_numbered
    (λ x a. subst (λ (y : TaskRow). task_row_weight y ≤ task_row_weight x + cond (x.no == t) (report_gain chunk last) 0) (sym (update_task s m b t try_no chunk last x))
    (one_task_gains t (report_gain chunk last) (reported_task m fresh chunk last x) x (let its = reported_grows m fresh chunk last x in omega (arith, its, light))))
tasks_gain s m k o = let less = none_gain task_row_weight (λ (x : TaskRow). x) s.tasks (λ x a. omega arith) in omega (arith, less)

-- what a row weighs that is added
abbrev added_gain : EntryKind → ℕ
added_gain (kind.New t who request state slice from) = length who + task_weight request
added_gain entry = 0

added_weigh : (m : ℕ) (k : EntryKind) → sum_by task_row_weight (added_tasks m k) ≤ added_gain k
added_weigh m (kind.New t who request state slice from) = omega arith
added_weigh m k = omega arith

-- ---- bots

-- what the row of a bot gains
abbrev bot_gain : EntryKind → ℕ
bot_gain (kind.Handshake b id session dims q) = length id + (length session + (dims_weight dims + length q))
bot_gain (kind.Poll b dims q hint) = option_map_or dims_weight dims 0 + option_map_or length q 0
bot_gain (kind.Event b e text) = length text
bot_gain entry = 0

one_bot_gains : (b gain : ℕ) (y x : BotRow) → bot_row_weight y ≤ bot_row_weight x + gain → bot_row_weight (cond (x.no == b) y x) ≤ bot_row_weight x + cond (x.no == b) gain 0
one_bot_gains b gain y x less = by_test (x.no == b)
  where
    by_test : (c : Bool) → bot_row_weight (cond c y x) ≤ bot_row_weight x + cond c gain 0
    by_test true = less
    by_test false = omega arith

at_bot : (b : ℕ) (y x : BotRow) → bot_row_weight y ≤ bot_row_weight x → bot_row_weight (cond (x.no == b) y x) ≤ bot_row_weight x
at_bot b y x less = cond_both (x.no == b) y x (λ (z : BotRow). bot_row_weight z ≤ bot_row_weight x) (λ n. less) (λ n. omega arith)

polled_grows : (m : ℕ) (dims : Option BotDims) (q : Option Text) (hint : Bool) (x : BotRow) → bot_row_weight (polled m dims q hint x) ≤ bot_row_weight x + (option_map_or dims_weight dims 0 + option_map_or length q 0)
polled_grows m None None hint x = omega arith
polled_grows m None (Some q) hint x = omega arith
polled_grows m (Some dims) None hint x = omega arith
polled_grows m (Some dims) (Some q) hint x = omega arith

event_grows : (m : ℕ) (e : EventKind) (text : List ℕ) (x : BotRow) → bot_row_weight (event_effect m e text x) ≤ bot_row_weight x + length text
event_grows m event.Ping text x = omega arith
event_grows m event.Quarantine text x = omega arith
event_grows m event.Unquarantine text x = omega arith

reporting_less : (m : ℕ) (last : Option Last) (x : BotRow) → bot_row_weight (reporting_bot m last x) ≤ bot_row_weight x
reporting_less m None x = omega arith
reporting_less m (Some last) x = omega arith

bots_gain : (s : PoolState) (m : ℕ) (k : EntryKind) → IsSound s → sum_by bot_row_weight (map (bot_after m k) s.bots ++ added_bots s m k) ≤ sum_by bot_row_weight s.bots + bot_gain k
bots_gain s m (kind.Handshake b id session dims q) o = by_old (bot_of s b) refl
  where
    k : EntryKind
    k = kind.Handshake b id session dims q

    row : BotRow
    row = session_row m b id session dims q

    changed : List BotRow
    changed = map (bot_after m k) s.bots

    by_old : (r : Option BotRow) → bot_of s b ≡ r → sum_by bot_row_weight (changed ++ option_map_or (λ old. []) r (row ∷ [])) ≤ sum_by bot_row_weight s.bots + bot_gain k
    by_old (Some old) e =
        (let all = sum_by-append bot_row_weight changed [] in
        let gains = one_gains no_of_bot bot_row_weight (bot_after m k) b (bot_gain k) 1 s.bots o.bots_numbered (λ x a. one_bot_gains b (bot_gain k) row x (omega arith)) in
        omega (arith, all, gains))
    by_old None e =
        (let all = sum_by-append bot_row_weight changed (row ∷ []) in
        let one = sum_by-cons bot_row_weight row [] in
        let less = none_gain bot_row_weight (bot_after m k) s.bots (λ x a. rw (find_none (is_bot b) s.bots e x a) (omega arith)) in
        omega (arith, all, one, less))
bots_gain s m (kind.Poll b dims q hint) o =
    let all = sum_by-append bot_row_weight (map (bot_after m (kind.Poll b dims q hint)) s.bots) [] in
    let gain : ℕ = bot_gain (kind.Poll b dims q hint) in
    let gains = one_gains no_of_bot bot_row_weight (bot_after m (kind.Poll b dims q hint)) b gain 1 s.bots o.bots_numbered (λ x a. one_bot_gains b gain (polled m dims q hint x) x (polled_grows m dims q hint x)) in
    omega (arith, all, gains)
bots_gain s m (kind.Event b e text) o =
    let all = sum_by-append bot_row_weight (map (bot_after m (kind.Event b e text)) s.bots) [] in
    let gains = one_gains no_of_bot bot_row_weight (bot_after m (kind.Event b e text)) b (length text) 1 s.bots o.bots_numbered (λ x a. one_bot_gains b (length text) (event_effect m e text x) x (event_grows m e text x)) in
    omega (arith, all, gains)
bots_gain s m (kind.Silence t) o =
    let all = sum_by-append bot_row_weight (map (bot_after m (kind.Silence t)) s.bots) [] in
    let less = none_gain bot_row_weight (bot_after m (kind.Silence t)) s.bots (λ x a. cond_both (runs_task t x) (silent_bot x) x (λ (z : BotRow). bot_row_weight z ≤ bot_row_weight x) (λ n. omega arith) (λ n. omega arith)) in
    omega (arith, all, less)
bots_gain s m (kind.Dead b) o =
    let all = sum_by-append bot_row_weight (map (bot_after m (kind.Dead b)) s.bots) [] in
    let less = none_gain bot_row_weight (bot_after m (kind.Dead b)) s.bots (λ x a. at_bot b (dead_bot x) x (omega arith)) in omega (arith, all, less)
bots_gain s m (kind.Claim b t claim) o =
    let all = sum_by-append bot_row_weight (map (bot_after m (kind.Claim b t claim)) s.bots) [] in
    let less = none_gain bot_row_weight (bot_after m (kind.Claim b t claim)) s.bots (λ x a. at_bot b (assigned_bot m t x) x (omega arith)) in omega (arith, all, less)
bots_gain s m (kind.Contact b) o =
    let all = sum_by-append bot_row_weight (map (bot_after m (kind.Contact b)) s.bots) [] in
    let less = none_gain bot_row_weight (bot_after m (kind.Contact b)) s.bots (λ x a. at_bot b (heard m x) x (omega arith)) in omega (arith, all, less)
bots_gain s m (kind.Update b t try_no chunk last) o =
    let all = sum_by-append bot_row_weight (map (bot_after m (kind.Update b t try_no chunk last)) s.bots) [] in
    let less = none_gain bot_row_weight (bot_after m (kind.Update b t try_no chunk last)) s.bots
    (λ x a. subst (λ (y : BotRow). bot_row_weight y ≤ bot_row_weight x) (sym (update_bot m b t try_no chunk last x)) (at_bot b (reporting_bot m last x) x (reporting_less m last x))) in
    omega (arith, all, less)
bots_gain s m (kind.Terminate b) o =
    let all = sum_by-append bot_row_weight (map (bot_after m (kind.Terminate b)) s.bots) [] in
    let less = none_gain bot_row_weight (bot_after m (kind.Terminate b)) s.bots (λ x a. at_bot b (terminated x) x (omega arith)) in omega (arith, all, less)
bots_gain s m k o =
    let all = sum_by-append bot_row_weight (map (λ (x : BotRow). x) s.bots) [] in
    let less = none_gain bot_row_weight (λ (x : BotRow). x) s.bots (λ x a. omega arith) in omega (arith, all, less)

-- ---- both

-- all of it is in the entry
parts_weigh : (k : EntryKind) → task_gain k + (added_gain k + bot_gain k) ≤ weight_of k
parts_weigh (kind.New t who request state slice from) = omega arith
parts_weigh (kind.Handshake b id session dims q) = omega arith
parts_weigh (kind.Poll b dims q hint) = omega arith
parts_weigh (kind.Claim b t claim) = omega arith
parts_weigh (kind.Event b e text) = omega arith
parts_weigh (kind.Update b t try_no chunk last) = omega arith
parts_weigh k = omega arith

pub weight_after : WeightAfter
weight_after s e o =
    let tasks = tasks_gain s e.moment e.kind o in
    let added = added_weigh e.moment e.kind in
    let all = sum_by-append task_row_weight (map (task_after s e.moment e.kind) s.tasks) (added_tasks e.moment e.kind) in
    let bots = bots_gain s e.moment e.kind o in
    let parts = parts_weigh e.kind in
    omega (arith, tasks, added, all, bots, parts)

pub weight_bounded : (base : PoolState) (log : List Entry) → IsSound base → IsCaused base log → state_weight (replay base log) ≤ state_weight base + sum_by weight log
weight_bounded s [] o c = omega arith
weight_bounded s (e ∷ log) o c =
    let rest = weight_bounded (after s e) log (sound_after s e o c.0) c.1 in
    let step = weight_after s e o in
    let all = sum_by-cons weight e log in
    omega (arith, rest, step, all)
