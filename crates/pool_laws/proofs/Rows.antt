-- Rows by their numbers, and what holds of them before and after an entry.
use Rattle.std.proofs.Common.{◌≡◌, ℕ, ◌≤◌, ◌==◌, ◌&&◌, not, Bool, true, false, cond, List, [], ◌∷◌, ◌++◌, ◌⊎◌, inl, inr, map, length, length-append, refl, sym, ap, ◌∙◌, subst, arith, Option, Some, None, is_some, is_none, IfSome, IsTrue, IsSomeAnd, eqb-true, filter}
use Rattle.std.specs.Prelude.{if◌then◌else◌, unwrap_or}
use Rattle.std.specs.List.{All, fold}
use Rattle.std.specs.Option.{option_map, option_map_or, option_and_then}
use Rattle.std.proofs.lemmas.Bool.{cond_both, and_parts}
use Rattle.std.proofs.lemmas.List.{length-map}
use Rattle.dimensions.specs.Alike.{same}
use Rattle.pool_laws.specs.Types.{Text, BotDims, TaskState, Pending, Running, NoResource, Attempt, Chunk, Last, TaskRow, BotRow, PoolState, EventKind, EntryKind, Outcome}
use Rattle.swarm_model.specs.declared.entry.EntryKind.TheVariants as kind
use Rattle.swarm_model.specs.declared.entry.Outcome.TheVariants as outcome
use Rattle.swarm_model.specs.declared.request.Request.TheVariants as ask
use Rattle.swarm_model.specs.Finding.{is_state, is_final, is_bot, task_of, bot_of}
use Rattle.swarm_model.specs.Fits.{fits, fits_chunk, fits_message, is_name}
use Rattle.swarm_model.specs.Slices.{foremost, goes_before, is_kept_from, waits_for, takes_slice, current_slice}
use Rattle.swarm_model.specs.Deadlines.{next_of}
use Rattle.swarm_model.specs.Entries.{poll_of, event_of, Asked}
use Rattle.swarm_model.specs.Effects.{no_of_task, no_of_bot, task_after, added_tasks, bot_after, added_bots, task_at, bot_at, expired_slice, is_tried_again, retried_run, died_run, lost_run, lost_run_at, canceled, kill_marked, started_run, lengthened, ended_run, ended_run_at, fresh_chunk, chunk_at, attempt_of, if_some, run_of_bot, runs_task, silent_bot, dead_bot, session_row, polled, assigned_bot, heard, idle_bot, event_effect, terminated}
use Rattle.swarm_model.specs.Soundness.{IsSound, IsSoundTask, IsSoundBot, Agree, runner}
use Rattle.pool_laws.proofs.Alike.{same_is}
use Rattle.pool_laws.proofs.Lists.{Among, here, later, Found, each, all, each_append, each_map, find_is, filter_is, number_within, number_tells, number_finds}
use Rattle.pool_laws.proofs.Preconditions.{Finds, HasTask, FindsSlice, FindsClaim, FindsUpdate, IsOld, IsNewcomer, waits, runs}
use Rattle.pool_laws.proofs.EntryPreconditions.{IsFitting}

module _ (s : PoolState) (o : IsSound s) where
  -- what soundness says of a row
  pub task_is : (x : TaskRow) → Among x s.tasks → IsSoundTask s x
  task_is x a = each (IsSoundTask s) s.tasks o.tasks x a

  -- of a bot
  pub bot_is : (x : BotRow) → Among x s.bots → IsSoundBot s x
  bot_is x a = each (IsSoundBot s) s.bots o.bots x a

  -- of a bot and a task
  pub agree : (b : BotRow) → Among b s.bots → (x : TaskRow) → Among x s.tasks → Agree b x
  agree b a x c = each (Agree b) s.tasks (each (λ (z : BotRow). All (Agree z) s.tasks) s.bots o.runs b a) x c

  -- rows of one number are one
  pub one_task : (x y : TaskRow) → Among x s.tasks → Among y s.tasks → x.no ≡ y.no → x ≡ y
  one_task x y a b e = number_tells no_of_task 1 s.tasks o.tasks_numbered x y a b e

  -- so are bots
  pub one_bot : (x y : BotRow) → Among x s.bots → Among y s.bots → x.no ≡ y.no → x ≡ y
  one_bot x y a b e = number_tells no_of_bot 1 s.bots o.bots_numbered x y a b e

  -- a row is found by its number
  pub find_task : (x : TaskRow) (n : ℕ) → Among x s.tasks → x.no ≡ n → task_of s n ≡ Some x
  find_task x n a e = subst (λ (k : ℕ). task_of s k ≡ Some x) e (number_finds no_of_task 1 s.tasks o.tasks_numbered x a)

  -- and so is a bot
  pub find_bot : (x : BotRow) (n : ℕ) → Among x s.bots → x.no ≡ n → bot_of s n ≡ Some x
  find_bot x n a e = subst (λ (k : ℕ). bot_of s k ≡ Some x) e (number_finds no_of_bot 1 s.bots o.bots_numbered x a)

  -- the row of a number is the one that was found
  pub row_is : (t : ℕ) (test : TaskRow → Bool) → HasTask s t test → (x : TaskRow) → Among x s.tasks → (x.no == t) ≡ true → test x ≡ true
  row_is t test h x a e = subst (λ (y : TaskRow). test y ≡ true) (one_task h.task x h.among a (h.named ∙ sym (eqb-true x.no t e))) h.passes

  -- a task whose slice ran out goes where the entry says
  pub goes_to : (t : ℕ) (to : Outcome) → FindsSlice s t to → (x : TaskRow) → Among x s.tasks → (x.no == t) ≡ true → to ≡ next_of s x
  goes_to t to f x a e = f.goes ∙ ap (λ (r : Option TaskRow). option_map_or (next_of s) r (outcome.Ended NoResource)) (find_task x t a (eqb-true x.no t e))

-- the foremost of some tasks is one of them
fold_is : (best : Option TaskRow) (xs : List TaskRow) (r : TaskRow) → fold foremost best xs ≡ Some r → (best ≡ Some r) ⊎ Among r xs
fold_is best [] r e = inl e
fold_is best (x ∷ xs) r e = by_best best (fold_is (foremost best x) xs r e)
  where
    first_is : (b : Option TaskRow) → foremost b x ≡ Some r → (b ≡ Some r) ⊎ (x ≡ r)
    first_is None g = inr (cc (g))
    first_is (Some y) g = cond_both (goes_before x y) (Some x) (Some y) (λ (z : Option TaskRow). z ≡ Some r → (Some y ≡ Some r) ⊎ (x ≡ r)) (λ t f. inr (cc (f))) (λ t f. inl f) g

    in_front : (b : Option TaskRow) → (b ≡ Some r) ⊎ (x ≡ r) → (b ≡ Some r) ⊎ Among r (x ∷ xs)
    in_front b (inl g) = inl g
    in_front b (inr g) = inr (subst (λ (z : TaskRow). Among z (x ∷ xs)) g here)

    by_best : (b : Option TaskRow) → (foremost b x ≡ Some r) ⊎ Among r xs → (b ≡ Some r) ⊎ Among r (x ∷ xs)
    by_best b (inl g) = in_front b (first_is b g)
    by_best b (inr a) = inr (later a)

-- and where there is none so far, one of the others
pub foremost_is : (xs : List TaskRow) (r : TaskRow) → fold foremost None xs ≡ Some r → Among r xs
foremost_is xs r e = by_start (fold_is None xs r e)
  where
    by_start : (None ≡ Some r) ⊎ Among r xs → Among r xs
    by_start (inl g) = absurd (cc (g))
    by_start (inr a) = a

-- the task that a claim gets is one that waits for the bot
pub claim_gets : (s : PoolState) (b t : ℕ) (id : List ℕ) (f : FindsClaim s b t id) → Found (waits_for f.bot.no f.bot.dims) s.tasks f.task
claim_gets s b t id f = filter_is (waits_for f.bot.no f.bot.dims) s.tasks f.task (foremost_is (filter (waits_for f.bot.no f.bot.dims) s.tasks) f.task f.gets)

-- that has the number
pub claim_waits : (s : PoolState) (b t : ℕ) (id : List ℕ) → FindsClaim s b t id → HasTask s t waits
claim_waits s b t id f =
    let g = claim_gets s b t id f in
    record { task = f.task; among = g.among; named = f.task_named; passes = (and_parts (waits f.task) (takes_slice f.bot.dims (current_slice f.task) && not (is_kept_from f.bot.no f.task)) g.passes).0 }

-- and is not kept from the bot
pub claim_not_kept : (s : PoolState) (b t : ℕ) (id : List ℕ) (f : FindsClaim s b t id) (x : TaskRow) → f.task ≡ x → is_kept_from b x ≡ false
claim_not_kept s b t id f x own =
    let g = claim_gets s b t id f in
    let parts = and_parts (takes_slice f.bot.dims (current_slice f.task)) (not (is_kept_from f.bot.no f.task)) (and_parts (waits f.task) _ g.passes).1 in
    not_false (is_kept_from b x) (subst (λ (n : ℕ). not (is_kept_from n x) ≡ true) f.named (subst (λ (y : TaskRow). not (is_kept_from f.bot.no y) ≡ true) own parts.1))
  where
    not_false : (c : Bool) → not c ≡ true → c ≡ false
    not_false false e = refl
    not_false true e = absurd (cc (e))

-- the bot was heard, and is done with its task
abbrev pub relieved : ℕ → BotRow → BotRow
relieved moment bot = idle_bot (heard moment bot)

-- the attempt and the end that go with a state
abbrev pub fits_in : TaskState → Option Attempt → Option ℕ → Bool
fits_in state attempt ended =
    if is_state state Pending then is_none attempt && is_none ended
    else if is_state state Running then is_some attempt && (is_none (option_and_then (λ (a : Attempt). a.last) attempt) && is_none ended)
    else is_some ended

-- the run of a bot is named by its row
pub record HasRun (s : PoolState) (b t : ℕ) : Type 0 where
  pub bot : BotRow
  pub among : Among bot s.bots
  pub named : bot.no ≡ b
  pub task : bot.task ≡ Some t

-- a run that is found is that of a row
pub run_is : (s : PoolState) (b t : ℕ) → run_of_bot s b ≡ Some t → HasRun s b t
run_is s b t e = by_bot (bot_of s b) refl e
  where
    by_bot : (o : Option BotRow) → bot_of s b ≡ o → option_and_then (λ (z : BotRow). z.task) o ≡ Some t → HasRun s b t
    by_bot None g h = absurd (cc (h))
    by_bot (Some x) g h = (let f : Found (is_bot b) s.bots x = find_is (is_bot b) s.bots x g in record { bot = x; among = f.among; named = eqb-true x.no b f.passes; task = h })

-- what a report does to the row of its task
abbrev pub reported_task : ℕ → Option Chunk → Option Chunk → Option Last → TaskRow → TaskRow
reported_task m fresh chunk last task = if_some (ended_run m chunk) last (if_some lengthened fresh task)

-- and to that of its bot
abbrev pub reporting_bot : ℕ → Option Last → BotRow → BotRow
reporting_bot m None bot = heard m bot
reporting_bot m (Some last) bot = relieved m bot

pub update_task : (s : PoolState) (m b t try_no : ℕ) (chunk : Option Chunk) (last : Option Last) (x : TaskRow) →
    task_after s m (kind.Update b t try_no chunk last) x ≡ task_at t (reported_task m (fresh_chunk (attempt_of s t) chunk) chunk last) x
update_task s m b t try_no chunk last x = by_test (x.no == t) refl last (fresh_chunk (attempt_of s t) chunk)
  where
    by_test : (c : Bool) → (x.no == t) ≡ c → (l : Option Last) (fresh : Option Chunk) →
        if_some (ended_run_at m t chunk) l (if_some (chunk_at t) fresh x) ≡ cond c (reported_task m fresh chunk l x) x
    by_test true e None None = refl
    by_test true e None (Some c) = rw e refl
    by_test true e (Some l) None = rw e refl
    by_test true e (Some l) (Some c) = rw (e, e) refl
    by_test false e None None = refl
    by_test false e None (Some c) = rw e refl
    by_test false e (Some l) None = rw e refl
    by_test false e (Some l) (Some c) = rw (e, e) refl

pub update_bot : (m b t try_no : ℕ) (chunk : Option Chunk) (last : Option Last) (x : BotRow) → bot_after m (kind.Update b t try_no chunk last) x ≡ bot_at b (reporting_bot m last) x
update_bot m b t try_no chunk None x = refl
update_bot m b t try_no chunk (Some last) x = by_test (x.no == b) refl
  where
    by_test : (c : Bool) → (x.no == b) ≡ c → bot_at b idle_bot (cond c (heard m x) x) ≡ cond c (relieved m x) x
    by_test true e = rw e refl
    by_test false e = rw e refl

-- the bot that runs a task, from the parts of its row
abbrev pub runner_in : TaskState → Option Attempt → Option ℕ
runner_in state attempt = if is_state state Running then option_map (λ (a : Attempt). a.bot) attempt else None

-- a task with a runner runs
pub has_runner : (x : TaskRow) (n : ℕ) → runner x ≡ Some n → runs x ≡ true
has_runner x n r = by_test (runs x) r
  where
    by_test : (b : Bool) → cond b (option_map (λ (a : Attempt). a.bot) x.attempt) None ≡ Some n → b ≡ true
    by_test true g = refl
    by_test false g = absurd (cc (g))

-- a task that isn't over and has a run runs
pub goes_on_runs : (s : PoolState) → IsSound s → (b t : ℕ) (chunk : Option Chunk) (last : Option Last) (f : FindsUpdate s b t chunk last) → runs f.task ≡ true
goes_on_runs s o b t chunk last f = by_state f.task.state f.task.attempt (task_is s o f.task f.among).state f.goes_on f.attempted
  where
    by_state : (state : TaskState) (attempt : Option Attempt) → fits_in state attempt f.task.ended ≡ true → is_final state ≡ false → attempt ≡ Some f.attempt → is_state state Running ≡ true
    by_state Pending None h g e = absurd (cc (e))
    by_state Pending (Some a) h g e = absurd (cc (h))
    by_state Running attempt h g e = refl
    by_state state attempt h g e = absurd (cc (g))

-- it is one that runs
pub update_runs : (s : PoolState) → IsSound s → (b t : ℕ) (chunk : Option Chunk) (last : Option Last) → FindsUpdate s b t chunk last → HasTask s t runs
update_runs s o b t chunk last f = record { task = f.task; among = f.among; named = f.named; passes = goes_on_runs s o b t chunk last f }

-- a chunk goes on from the output of a task
pub record GoesOn (chunk : Chunk) (x : TaskRow) : Type 0 where
  pub attempt : Attempt
  pub attempted : x.attempt ≡ Some attempt
  pub begins : chunk.start ≡ attempt.length
  pub fits : fits_chunk chunk ≡ true

-- a chunk that is fresh does
fresh_goes : (attempt : Attempt) (chunk : Option Chunk) (x : TaskRow) → x.attempt ≡ Some attempt → option_map_or fits_chunk chunk true ≡ true → IfSome (fresh_chunk (Some attempt) chunk) (λ c. GoesOn c x)
fresh_goes attempt None x has fits = tt
fresh_goes attempt (Some c) x has fits =
    cond_both (c.start == attempt.length) (Some c) None (λ (r : Option Chunk). IfSome r (λ c. GoesOn c x))
    (λ t. record { attempt = attempt; attempted = has; begins = eqb-true c.start attempt.length t; fits = fits }) (λ t. tt)

-- so does that of a report
pub report_goes : (s : PoolState) → IsSound s → (b t : ℕ) (chunk : Option Chunk) (last : Option Last) → FindsUpdate s b t chunk last → (x : TaskRow) → Among x s.tasks → (x.no == t) ≡ true →
    IfSome (fresh_chunk (attempt_of s t) chunk) (λ c. GoesOn c x)
report_goes s o b t chunk last f x a n =
    let its : f.task ≡ x = one_task s o f.task x f.among a (f.named ∙ sym (eqb-true x.no t n)) in
    let has : x.attempt ≡ Some f.attempt = ap (λ (y : TaskRow). y.attempt) (sym its) ∙ f.attempted in
    let there : attempt_of s t ≡ Some f.attempt = ap (option_and_then (λ (y : TaskRow). y.attempt)) (find_task s o x t a (eqb-true x.no t n)) ∙ has in
    subst (λ (r : Option Attempt). IfSome (fresh_chunk r chunk) (λ c. GoesOn c x)) (sym there) (fresh_goes f.attempt chunk x has f.fits)

-- the entry is a report that ends its run
pub record IsReport (k : EntryKind) (chunk : Option Chunk) (last : Last) : Type 0 where
  pub bot : ℕ
  pub task : ℕ
  pub try_no : ℕ
  pub is : k ≡ kind.Update bot task try_no chunk (Some last)

-- the entry is a report whose chunk goes on from the output
pub record IsFresh (s : PoolState) (k : EntryKind) (chunk : Chunk) : Type 0 where
  pub bot : ℕ
  pub task : ℕ
  pub try_no : ℕ
  pub told : Option Chunk
  pub last : Option Last
  pub is : k ≡ kind.Update bot task try_no told last
  pub fresh : fresh_chunk (attempt_of s task) told ≡ Some chunk

-- a run that is lost is tried again, or ends for good
pub lost_is : (P : TaskRow → Type 0) (retries m : ℕ) (x : TaskRow) → (is_tried_again retries x ≡ true → P (retried_run m x)) → (is_tried_again retries x ≡ false → P (died_run m x)) → P (lost_run retries m x)
lost_is P retries m x again died = cond_both (is_tried_again retries x) (retried_run m x) (died_run m x) P again died

-- a task that is lost keeps its number
pub lost_no : (retries m : ℕ) (x : TaskRow) → (lost_run retries m x).no ≡ x.no
lost_no retries m x = lost_is (λ (y : TaskRow). y.no ≡ x.no) retries m x (λ t. refl) (λ t. refl)

-- what a fact of a task needs so that an entry keeps it
pub record Stays (P : TaskRow → Type 0) (s : PoolState) (m : ℕ) (k : EntryKind) (x : TaskRow) : Type 0 where
  pub same : P x
  pub moves : waits x ≡ true → P (expired_slice m (next_of s x) x)
  pub loses : runs x ≡ true → P (lost_run s.settings.retries m x)
  pub begins : (b t : ℕ) (id : List ℕ) → k ≡ kind.Claim b t id → (found : FindsClaim s b t id) → waits x ≡ true → found.task ≡ x → P (started_run m b id x)
  pub cancels : waits x ≡ true → P (canceled m x)
  pub marks : runs x ≡ true → P (kill_marked x)
  pub grows : (chunk : Chunk) → IsFresh s k chunk → GoesOn chunk x → runs x ≡ true → P (lengthened chunk x)
  pub finishes : (chunk : Option Chunk) (last : Last) → IsReport k chunk last → (y : TaskRow) → runs y ≡ true → P y → P (ended_run m chunk last y)

module _ (P : TaskRow → Type 0) (s : PoolState) (m : ℕ) (o : IsSound s) (x : TaskRow) (a : Among x s.tasks) where
  -- a task of a bot that comes anew is lost
  pub lost_by : P x → (runs x ≡ true → P (lost_run s.settings.retries m x)) → (b : ℕ) (run : Option ℕ) → run_of_bot s b ≡ run → P (if_some (lost_run_at s.settings.retries m) run x)
  lost_by same loses b None e = same
  lost_by same loses b (Some t) e =
      cond_both (x.no == t) (lost_run s.settings.retries m x) x P
      (λ n. let f : HasRun s b t = run_is s b t e in loses (has_runner x f.bot.no ((agree s o f.bot f.among x a).0 (f.task ∙ ap (λ j. Some j) (sym (eqb-true x.no t n))))))
      (λ n. same)

  -- the output of a run goes on, and then the run may end
  reported_by : (k : EntryKind) → Stays P s m k x → runs x ≡ true → (fresh chunk : Option Chunk) (last : Option Last) → IfSome last (IsReport k chunk) → IfSome fresh (IsFresh s k) → IfSome fresh (λ c. GoesOn c x) →
      P (reported_task m fresh chunk last x)
  reported_by k p r None chunk None ends is g = p.same
  reported_by k p r None chunk (Some last) ends is g = p.finishes chunk last ends x r p.same
  reported_by k p r (Some c) chunk None ends is g = p.grows c is g r
  reported_by k p r (Some c) chunk (Some last) ends is g = p.finishes chunk last ends (lengthened c x) r (p.grows c is g r)

  -- the entry of a report is one
  report_is : (b t try_no : ℕ) (chunk : Option Chunk) (last : Option Last) → IfSome last (IsReport (kind.Update b t try_no chunk last) chunk)
  report_is b t try_no chunk None = tt
  report_is b t try_no chunk (Some last) = record { bot = b; task = t; try_no = try_no; is = refl }

  -- with the chunk that goes on
  fresh_is : (b t try_no : ℕ) (told : Option Chunk) (last : Option Last) (r : Option Chunk) → fresh_chunk (attempt_of s t) told ≡ r → IfSome r (IsFresh s (kind.Update b t try_no told last))
  fresh_is b t try_no told last None e = tt
  fresh_is b t try_no told last (Some c) e = record { bot = b; task = t; try_no = try_no; told = told; last = last; is = refl; fresh = e }

  -- the row after an entry is as it was, or changed in one of seven ways
  pub task_by : (k : EntryKind) → Finds s k → Stays P s m k x → P (task_after s m k x)
  task_by (kind.Slice t to) f p =
      cond_both (x.no == t) (expired_slice m to x) x P
      (λ n. subst (λ (z : Outcome). P (expired_slice m z x)) (sym (goes_to s o t to f x a n)) (p.moves (row_is s o t waits f.waiting x a n)))
      (λ n. p.same)
  task_by (kind.Silence t) f p = cond_both (x.no == t) (lost_run s.settings.retries m x) x P (λ n. p.loses (row_is s o t runs f x a n)) (λ n. p.same)
  task_by (kind.Cancel t) f p = cond_both (x.no == t) (canceled m x) x P (λ n. p.cancels (row_is s o t waits f x a n)) (λ n. p.same)
  task_by (kind.Kill t) f p = cond_both (x.no == t) (kill_marked x) x P (λ n. p.marks (row_is s o t runs f x a n)) (λ n. p.same)
  task_by (kind.Handshake b id session dims q) f p = lost_by p.same p.loses b (run_of_bot s b) refl
  task_by (kind.Claim b t id) f p =
      cond_both (x.no == t) (started_run m b id x) x P
      (λ n. p.begins b t id refl f (row_is s o t waits (claim_waits s b t id f) x a n) (one_task s o f.task x (claim_gets s b t id f).among a (f.task_named ∙ sym (eqb-true x.no t n))))
      (λ n. p.same)
  task_by (kind.Update b t try_no chunk last) f p =
      (let fresh : Option Chunk = fresh_chunk (attempt_of s t) chunk in
      subst P (sym (update_task s m b t try_no chunk last x))
      (cond_both (x.no == t) (reported_task m fresh chunk last x) x P (λ n.
      reported_by (kind.Update b t try_no chunk last) p (row_is s o t runs (update_runs s o b t chunk last f) x a n) fresh chunk last (report_is b t try_no chunk last) (fresh_is b t try_no chunk last fresh refl)
      (report_goes s o b t chunk last f x a n)) (λ n. p.same)))
  task_by entry f p = p.same

-- what a fact of a bot needs so that an entry keeps it
pub record Keeps (P : BotRow → Type 0) (s : PoolState) (m : ℕ) (x : BotRow) : Type 0 where
  pub same : P x
  pub hushes : P (silent_bot x)
  pub dies : P (dead_bot x)
  pub greets : (b : ℕ) (id session : List ℕ) (dims : BotDims) (q : List ℕ) → x.no ≡ b → x.name ≡ id → IsTrue (fits s.settings (ask.Handshake id session dims q)) → P (session_row m b id session dims q)
  pub polls : (dims : Option BotDims) (q : Option Text) (hint : Bool) → IsTrue (fits s.settings (ask.Poll x.name (unwrap_or dims x.dims) (unwrap_or q x.quarantined))) → P (polled m dims q hint x)
  pub busies : (b t : ℕ) (id : List ℕ) → FindsClaim s b t id → P (assigned_bot m t x)
  pub hears : P (heard m x)
  pub notes : (e : EventKind) (text : List ℕ) → fits_message e text ≡ true → P (event_effect m e text x)
  pub rests : P (relieved m x)
  pub stops : P (terminated x)

module _ (P : BotRow → Type 0) (s : PoolState) (m : ℕ) (o : IsSound s) (x : BotRow) (a : Among x s.bots) (p : Keeps P s m x) where
  -- the row of a number
  at_bot : (b : ℕ) (y : BotRow) → ((x.no == b) ≡ true → P y) → P (if x.no == b then y else x)
  at_bot b y h = cond_both (x.no == b) y x P h (λ n. p.same)

  -- the request for which an entry stands, where it is that of this row
  asked_of : (b : ℕ) (request_of : BotRow → Asked) → IsSomeAnd (option_map request_of (bot_of s b)) (λ asked. IsTrue (fits s.settings asked.request)) → (x.no == b) ≡ true → IsTrue (fits s.settings (request_of x).request)
  asked_of b request_of f n =
      subst (λ (r : Option BotRow). IsSomeAnd (option_map request_of r) (λ asked. IsTrue (fits s.settings asked.request))) (find_bot s o x b a (eqb-true x.no b n)) f

  -- a handshake of this row names its bot
  old_name : (b : ℕ) (id : List ℕ) → IsNewcomer s b id ⊎ IsOld s b id → x.no ≡ b → x.name ≡ id
  old_name b id (inl new) e = let low = (number_within no_of_bot 1 s.bots o.bots_numbered x a).1 in let next = new.next in absurd (omega (arith, low, next, e))
  old_name b id (inr old) e = same_is x.name id (subst (λ (y : BotRow). same y.name id ≡ true) (one_bot s o old.bot x old.among a (old.named ∙ sym e)) old.called)

  -- the row after an entry is as it was, or changed in one of nine ways
  pub bot_by : (k : EntryKind) → Finds s k → IsFitting s k → P (bot_after m k x)
  bot_by (kind.Silence t) f g = cond_both (runs_task t x) (silent_bot x) x P (λ n. p.hushes) (λ n. p.same)
  bot_by (kind.Dead b) f g = at_bot b (dead_bot x) (λ n. p.dies)
  bot_by (kind.Handshake b id session dims q) f g = at_bot b (session_row m b id session dims q) (λ n. p.greets b id session dims q (eqb-true x.no b n) (old_name b id f (eqb-true x.no b n)) g)
  bot_by (kind.Poll b dims q hint) f g = at_bot b (polled m dims q hint x) (λ n. p.polls dims q hint (asked_of b (poll_of dims q) g n))
  bot_by (kind.Claim b t id) f g = at_bot b (assigned_bot m t x) (λ n. p.busies b t id f)
  bot_by (kind.Contact b) f g = at_bot b (heard m x) (λ n. p.hears)
  bot_by (kind.Event b e text) f g = at_bot b (event_effect m e text x) (λ n. p.notes e text (and_parts (is_name x.name) (fits_message e text) (asked_of b (event_of e text) g n)).1)
  bot_by (kind.Update b t try_no chunk last) f g = subst P (sym (update_bot m b t try_no chunk last x)) (at_bot b (reporting_bot m last x) (λ n. reporting last))
    where
      reporting : (l : Option Last) → P (reporting_bot m l x)
      reporting None = p.hears
      reporting (Some l) = p.rests
  bot_by (kind.Terminate b) f g = at_bot b (terminated x) (λ n. p.stops)
  bot_by entry f g = p.same

-- what holds of each row that was there, changed, and of each that is added, holds of all
pub all_tasks : (P : TaskRow → Type 0) (s : PoolState) (m : ℕ) (k : EntryKind) → ((x : TaskRow) → Among x s.tasks → P (task_after s m k x)) → ((x : TaskRow) → Among x (added_tasks m k) → P x) →
    All P (map (task_after s m k) s.tasks ++ added_tasks m k)
all_tasks P s m k p q = all P _ (each_append P (map (task_after s m k) s.tasks) (added_tasks m k) (each_map P (task_after s m k) s.tasks p) q)

-- so it is with bots
pub all_bots : (P : BotRow → Type 0) (s : PoolState) (m : ℕ) (k : EntryKind) → ((x : BotRow) → Among x s.bots → P (bot_after m k x)) → ((x : BotRow) → Among x (added_bots s m k) → P x) →
    All P (map (bot_after m k) s.bots ++ added_bots s m k)
all_bots P s m k p q = all P _ (each_append P (map (bot_after m k) s.bots) (added_bots s m k) (each_map P (bot_after m k) s.bots p) q)

-- no row is taken away
pub no_fewer : {X : Type 0} (f : X → X) (xs added : List X) → length xs ≤ length (map f xs ++ added)
no_fewer f xs added = let both = length-append (map f xs) added in let same = length-map xs f in omega (arith, both, same)
