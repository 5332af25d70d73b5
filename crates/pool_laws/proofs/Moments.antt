-- No deadline lies before the last moment.
use Rattle.std.proofs.Common.{◌≡◌, ℕ, ◌+◌, ◌≤◌, ◌==◌, List, [], ◌∷◌, ◌++◌, map, refl, ap, sym, ◌∙◌, subst, cond, true, false, Bool, Option, Some, None, IfSome, eqb-true, arith, filter_map}
use Rattle.std.specs.Prelude.{if◌then◌else◌}
use Rattle.std.specs.List.{All}
use Rattle.std.specs.Option.{option_map, option_map_or, option_and_then}
use Rattle.std.proofs.lemmas.Bool.{cond_both, eqb-false}
use Rattle.std.proofs.lemmas.Option.{same_Some}
use Rattle.std.proofs.lemmas.List.Elements.{All-append, All-map}
use Rattle.pool_laws.specs.Types.{BlobRow, Slice, BotDied, Attempt, TaskRow, BotRow, PoolState, PoolSettings, Deadline, Entry, EntryKind, EventKind}
use Rattle.swarm_model.specs.declared.deadline.Cause.TheVariants as cause
use Rattle.swarm_model.specs.declared.entry.EntryKind.TheVariants as kind
use Rattle.swarm_model.specs.declared.entry.EventKind.TheVariants as event
use Rattle.swarm_model.specs.declared.entry.Outcome.TheVariants as outcome
use Rattle.swarm_model.specs.Finding.{is_bot, bot_of}
use Rattle.swarm_model.specs.Slices.{admit, current_slice}
use Rattle.swarm_model.specs.Deadlines.{slice_limit, slice_end, silence_limit, silence_end, bot_end, blob_end, next_of, last_state}
use Rattle.swarm_model.specs.Effects.{task_after, added_tasks, bot_after, added_bots, new_row, expired_slice, retried_run, died_run, lost_run, ended_run, end_state, session_row, assigned_bot, event_effect, after}
use Rattle.swarm_model.specs.History.{MayFollow}
use Rattle.swarm_model.specs.Soundness.{IsSound, runner}
use Rattle.pool_laws.proofs.Lists.{Among, Found, each, all, each_one, among_left, among_right, among_map, find_is, from_filter_map, all_filter_map}
use Rattle.pool_laws.proofs.Earliest.{Ahead, ahead_of_next}
use Rattle.pool_laws.proofs.Preconditions.{Finds, waits, runs}
use Rattle.pool_laws.proofs.EntryPreconditions.{IsFitting, finds, fitting}
use Rattle.pool_laws.proofs.Rows.{task_by, bot_by, all_tasks, all_bots, find_bot, lost_is}
use Rattle.pool_laws.proofs.Tasks.{end_final, finished_final, last_final, not_pending, runner_lost, runner_marked, runner_longer, runner_finished, runner_moved, added_idle}
use Rattle.pool_laws.proofs.Bots.{settings_same}
use Rattle.pool_laws.proofs.Numbers.{bot_no}
use Rattle.pool_laws.proofs.Blobs.{blobs_ahead}

-- a bot that told of itself was heard at that moment
event_effect_contact : (m : ℕ) (e : EventKind) (text : List ℕ) (x : BotRow) → (event_effect m e text x).contact ≡ m
event_effect_contact m event.Ping text x = refl
event_effect_contact m event.Quarantine text x = refl
event_effect_contact m event.Unquarantine text x = refl

-- a bot that an entry adds was heard at its moment
added_contact : (s : PoolState) (m : ℕ) (k : EntryKind) (x : BotRow) → Among x (added_bots s m k) → x.contact ≡ m
added_contact s m (kind.Handshake b id session dims q) x a = by_old (bot_of s b) a
  where
    by_old : (r : Option BotRow) → Among x (option_map_or (λ old. []) r (session_row m b id session dims q ∷ [])) → x.contact ≡ m
    by_old None c = each_one (λ (y : BotRow). y.contact ≡ m) (session_row m b id session dims q) refl x c
    by_old (Some old) c = elim c [ ]
added_contact s m k x a = elim a [ ]

-- slices

abbrev SliceAhead : ℕ → TaskRow → Type 0
SliceAhead m x = IfSome (slice_end x) (λ d. m ≤ d.moment)

-- a slice that begins at a moment runs out later
slice_from : (m : ℕ) (x : TaskRow) → m ≤ x.since → SliceAhead m x
slice_from m x l = cond_both (waits x) (option_map (slice_limit x) (current_slice x)) None (λ (o : Option Deadline). IfSome o (λ d. m ≤ d.moment)) (λ e. by_slice (current_slice x)) (λ e. tt)
  where
    by_slice : (o : Option Slice) → IfSome (option_map (slice_limit x) o) (λ d. m ≤ d.moment)
    by_slice None = tt
    by_slice (Some slice) = omega (arith, l)

-- what does not wait has no such deadline
slice_none : (m : ℕ) (x : TaskRow) → waits x ≡ false → SliceAhead m x
slice_none m x e = subst (λ (b : Bool). IfSome (cond b (option_map (slice_limit x) (current_slice x)) None) (λ d. m ≤ d.moment)) (sym e) tt

-- a task that moved has a slice from this moment on, or waits no more
slice_moved : (s : PoolState) (m : ℕ) (x : TaskRow) → SliceAhead m (expired_slice m (next_of s x) x)
slice_moved s m x = by_place (admit s x.request.task_slices (x.slice + 1))
  where
    by_place : (o : Option ℕ) → SliceAhead m (expired_slice m (option_map_or outcome.Slice o (outcome.Ended (last_state x))) x)
    by_place None = slice_none m (expired_slice m (outcome.Ended (last_state x)) x) (not_pending (last_state x) (last_final x))
    by_place (Some place) = slice_from m (expired_slice m (outcome.Slice place) x) (omega arith)

-- a task that is tried again has one from this moment on, and one that is over has none
slice_lost : (retries m : ℕ) (x : TaskRow) → SliceAhead m (lost_run retries m x)
slice_lost retries m x =
    lost_is (SliceAhead m) retries m x (λ t. slice_from m (retried_run m x) (omega arith)) (λ t. slice_none m (died_run m x) (not_pending (end_state x.attempt BotDied) (end_final x.attempt BotDied refl)))

-- a new task has one from this moment on
added_slice : (m : ℕ) (k : EntryKind) (x : TaskRow) → Among x (added_tasks m k) → SliceAhead m x
added_slice m (kind.New t who request state slice from) x a =
    each_one (SliceAhead m) (new_row m t who request state slice from) (slice_from m (new_row m t who request state slice from) (omega arith)) x a
added_slice m k x a = elim a [ ]

-- a bot and the task that it runs
abbrev PairAhead : ℕ → BotRow → TaskRow → Type 0
PairAhead m bot task = runner task ≡ Some bot.no → m ≤ bot.contact + task.request.bot_ping_tolerance_secs

-- a bot that isn't dead
abbrev BotAhead : ℕ → ℕ → BotRow → Type 0
BotAhead life m x = x.dead ≡ false → m ≤ x.contact + life

-- a bot that was heard at the moment dies later
bot_fresh : (life m : ℕ) (x : BotRow) → x.contact ≡ m → BotAhead life m x
bot_fresh life m x e h = omega (arith, e)

-- a blob
abbrev BlobAhead : ℕ → BlobRow → Type 0
BlobAhead m x = m ≤ x.deadline

-- the deadlines of the pool, by its rows
record RowsAhead (m : ℕ) (s : PoolState) : Type 0 where
  slices : (x : TaskRow) → Among x s.tasks → SliceAhead m x
  pairs : (b : BotRow) → Among b s.bots → (x : TaskRow) → Among x s.tasks → PairAhead m b x
  bots : (b : BotRow) → Among b s.bots → BotAhead s.settings.death_timeout_secs m b
  blobs : (b : BlobRow) → Among b s.blobs → BlobAhead m b

-- from deadlines to rows

-- what holds of two lists holds of the first
all_left : {X : Type 0} (P : X → Type 0) (xs ys : List X) → All P (xs ++ ys) → All P xs
all_left P xs ys h = all P xs (λ x a. each P (xs ++ ys) h x (among_left x xs ys a))

-- and of the second
all_right : {X : Type 0} (P : X → Type 0) (xs ys : List X) → All P (xs ++ ys) → All P ys
all_right P xs ys h = all P ys (λ x a. each P (xs ++ ys) h x (among_right x xs ys a))

-- a run and its bot make a deadline
silence_of : (s : PoolState) (x : TaskRow) (bot : BotRow) → bot_of s bot.no ≡ Some bot → (c : Bool) (attempt : Option Attempt) → cond c (option_map (λ (a : Attempt). a.bot) attempt) None ≡ Some bot.no →
    cond c (option_map (silence_limit x) (option_and_then (λ (a : Attempt). bot_of s a.bot) attempt)) None ≡ Some (silence_limit x bot)
silence_of s x bot g false attempt r = absurd (cc (r))
silence_of s x bot g true None r = absurd (cc (r))
silence_of s x bot g true (Some a) r = ap (option_map (silence_limit x)) (ap (bot_of s) (same_Some _ _ r) ∙ g)

-- all deadlines lie ahead, so the rows say so
rows_ahead : (s : PoolState) (m : ℕ) → IsSound s → Ahead m s → RowsAhead m s
rows_ahead s m o h =
    record {
      slices = from_filter_map slice_end P s.tasks (all_left P (filter_map slice_end s.tasks) others h);
      pairs = λ b c x a r. pair_by b c x a r;
      bots = λ b c alive. bot_by_end b c alive;
      blobs = λ b c. each P (map blob_end s.blobs) (all_right P (filter_map (bot_end s) s.bots) (map blob_end s.blobs) of_bots) (blob_end b) (among_map blob_end s.blobs b c);
    }
  where
    P : Deadline → Type 0
    P d = m ≤ d.moment

    others : List Deadline
    others = filter_map (silence_end s) s.tasks ++ (filter_map (bot_end s) s.bots ++ map blob_end s.blobs)

    rest : All P others
    rest = all_right P (filter_map slice_end s.tasks) others h

    of_bots : All P (filter_map (bot_end s) s.bots ++ map blob_end s.blobs)
    of_bots = all_right P (filter_map (silence_end s) s.tasks) (filter_map (bot_end s) s.bots ++ map blob_end s.blobs) rest

    pair_by : (b : BotRow) → Among b s.bots → (x : TaskRow) → Among x s.tasks → PairAhead m b x
    pair_by b c x a r =
        (let silence : IfSome (silence_end s x) P = from_filter_map (silence_end s) P s.tasks (all_left P (filter_map (silence_end s) s.tasks) (filter_map (bot_end s) s.bots ++ map blob_end s.blobs) rest) x a in
        subst (λ (d : Option Deadline). IfSome d P) (silence_of s x b (find_bot s o b b.no c refl) (runs x) x.attempt r) silence)

    bot_by_end : (b : BotRow) → Among b s.bots → BotAhead s.settings.death_timeout_secs m b
    bot_by_end b c alive =
        (let d : Deadline = record { moment = b.contact + s.settings.death_timeout_secs; cause = cause.Bot; number = b.no } in
        let end : IfSome (bot_end s b) P = from_filter_map (bot_end s) P s.bots (all_left P (filter_map (bot_end s) s.bots) (map blob_end s.blobs) of_bots) b c in
        subst (λ (dead : Bool). IfSome (if dead then None else Some d) P) alive end)

-- and back

-- a deadline of a run comes from its bot
pair_back : (s : PoolState) (m : ℕ) (x : TaskRow) (c : Bool) (attempt : Option Attempt) →
    ((b : BotRow) → Among b s.bots → cond c (option_map (λ (a : Attempt). a.bot) attempt) None ≡ Some b.no → m ≤ b.contact + x.request.bot_ping_tolerance_secs) →
    IfSome (cond c (option_map (silence_limit x) (option_and_then (λ (a : Attempt). bot_of s a.bot) attempt)) None) (λ d. m ≤ d.moment)
pair_back s m x false attempt p = tt
pair_back s m x true None p = tt
pair_back s m x true (Some a) p = by_bot (bot_of s a.bot) refl
  where
    by_bot : (r : Option BotRow) → bot_of s a.bot ≡ r → IfSome (option_map (silence_limit x) r) (λ d. m ≤ d.moment)
    by_bot None g = tt
    by_bot (Some bot) g = (let f : Found (is_bot a.bot) s.bots bot = find_is (is_bot a.bot) s.bots bot g in p bot f.among (ap (λ n. Some n) (sym (eqb-true bot.no a.bot f.passes))))

-- the rows say so, and all deadlines lie ahead
ahead_rows : (s : PoolState) (m : ℕ) → RowsAhead m s → Ahead m s
ahead_rows s m r =
    All-append P (filter_map slice_end s.tasks) _ (all_filter_map slice_end P s.tasks r.slices)
    (All-append P (filter_map (silence_end s) s.tasks) _
    (all_filter_map (silence_end s) P s.tasks (λ x a. pair_back s m x (runs x) x.attempt (λ b c e. r.pairs b c x a e)))
    (All-append P (filter_map (bot_end s) s.bots) (map blob_end s.blobs)
    (all_filter_map (bot_end s) P s.bots (λ b c. cond_both b.dead None _ (λ (d : Option Deadline). IfSome d P) (λ t. tt) (λ t. r.bots b c t)))
    (All-map P blob_end s.blobs (all (BlobAhead m) s.blobs r.blobs))))
  where
    P : Deadline → Type 0
    P d = m ≤ d.moment

-- rows after an entry

abbrev tasks_then : PoolState → ℕ → EntryKind → List TaskRow
tasks_then s m k = map (task_after s m k) s.tasks ++ added_tasks m k

abbrev bots_then : PoolState → ℕ → EntryKind → List BotRow
bots_then s m k = map (bot_after m k) s.bots ++ added_bots s m k

module _ (s : PoolState) (m : ℕ) (k : EntryKind) (o : IsSound s) (f : Finds s k) (g : IsFitting s k) where
  -- of slices
  slices_after : RowsAhead m s → All (SliceAhead m) (tasks_then s m k)
  slices_after r =
      all_tasks (SliceAhead m) s m k
      (λ x a. task_by (SliceAhead m) s m o x a k f (record {
        same = r.slices x a;
        moves = λ w. slice_moved s m x;
        loses = λ w. slice_lost s.settings.retries m x;
        begins = λ b t id is found w own. tt;
        cancels = λ w. tt;
        marks = λ w. r.slices x a;
        grows = λ chunk fresh grown w. r.slices x a;
        finishes = λ chunk last report y w p. slice_none m (ended_run m chunk last y) (not_pending (ended_run m chunk last y).state (finished_final m chunk last y));
      }))
      (added_slice m k)

  -- a bot is heard no earlier than before
  contact_ahead : (x : BotRow) → Among x s.bots → (n : ℕ) → m ≤ x.contact + n → m ≤ (bot_after m k x).contact + n
  contact_ahead x a n h =
      bot_by (λ (y : BotRow). m ≤ y.contact + n) s m o x a (record {
        same = h;
        hushes = h;
        dies = h;
        greets = λ b id session dims q is named may. omega arith;
        polls = λ dims q hint may. omega arith;
        busies = λ b t id found. omega arith;
        hears = omega arith;
        notes = λ e text may. (let l = event_effect_contact m e text x in omega (arith, l));
        rests = omega arith;
        stops = h;
      }) k f g

  -- a bot that begins a task was heard at this moment
  begun_ahead : (x : BotRow) (n b t : ℕ) (id : List ℕ) → k ≡ kind.Claim b t id → x.no ≡ b → m ≤ (bot_after m k x).contact + n
  begun_ahead x n b t id is named =
      subst (λ (z : EntryKind). m ≤ (bot_after m z x).contact + n) (sym is)
      (cond_both (x.no == b) (assigned_bot m t x) x (λ (y : BotRow). m ≤ y.contact + n) (λ e. omega arith) (λ e. absurd (eqb-false x.no b e named)))

  -- of a bot and a task that were there
  pair_row : (b : BotRow) → Among b s.bots → (x : TaskRow) → Among x s.tasks → PairAhead m b x → PairAhead m (bot_after m k b) (task_after s m k x)
  pair_row b c x a h =
      task_by (PairAhead m (bot_after m k b)) s m o x a k f (record {
        same = λ r. contact_ahead b c x.request.bot_ping_tolerance_secs (h (r ∙ ap (λ n. Some n) (bot_no s m k o f g b c)));
        moves = λ w r. absurd (cc (r, runner_moved s m x w));
        loses = λ w r. absurd (cc (r, runner_lost s.settings.retries m x));
        cancels = λ w r. absurd (cc (r));
        marks = λ w r. contact_ahead b c x.request.bot_ping_tolerance_secs (h (sym (runner_marked x) ∙ r ∙ ap (λ n. Some n) (bot_no s m k o f g b c)));
        grows = λ chunk fresh grown w r. contact_ahead b c x.request.bot_ping_tolerance_secs (h (sym (runner_longer chunk x) ∙ r ∙ ap (λ n. Some n) (bot_no s m k o f g b c)));
        finishes = λ chunk last report y w p r. absurd (cc (r, runner_finished m chunk last y));
        begins = λ n t id is found w own r. begun_ahead b x.request.bot_ping_tolerance_secs n t id is (sym (same_Some _ _ r ∙ bot_no s m k o f g b c));
      })

  -- of all pairs
  pairs_after : RowsAhead m s → All (λ b. All (PairAhead m b) (tasks_then s m k)) (bots_then s m k)
  pairs_after r =
      all_bots (λ (b : BotRow). All (PairAhead m b) (tasks_then s m k)) s m k
      (λ b c. all_tasks (PairAhead m (bot_after m k b)) s m k (λ x a. pair_row b c x a (r.pairs b c x a)) (λ x a e. absurd (cc (e, added_idle s m k f x a))))
      (λ b c. all_tasks (PairAhead m b) s m k (λ x a e. let l = added_contact s m k b c in omega (arith, l)) (λ x a e. let l = added_contact s m k b c in omega (arith, l)))

  -- of bots
  bots_after : (life : ℕ) → ((b : BotRow) → Among b s.bots → BotAhead life m b) → All (BotAhead life m) (bots_then s m k)
  bots_after life r =
      all_bots (BotAhead life m) s m k
      (λ x a. bot_by (BotAhead life m) s m o x a (record {
        same = r x a;
        hushes = λ e. absurd (cc (e));
        dies = λ e. absurd (cc (e));
        greets = λ b id session dims q is named may e. omega arith;
        polls = λ dims q hint may e. omega arith;
        busies = λ b t id found e. omega arith;
        hears = λ e. omega arith;
        notes = λ e text may. bot_fresh life m (event_effect m e text x) (event_effect_contact m e text x);
        rests = λ e. omega arith;
        stops = r x a;
      }) k f g)
      (λ x a. bot_fresh life m x (added_contact s m k x a))

-- no deadline lies before the entry, and it brings none before itself
pub ahead_after : (s : PoolState) (e : Entry) → IsSound s → MayFollow s e → Ahead e.moment (after s e)
ahead_after s e o follows =
    let f = finds s e follows in
    let g = fitting s e follows in
    let t = after s e in
    let r = rows_ahead s e.moment o (ahead_of_next s e follows) in
    let pairs = pairs_after s e.moment e.kind o f g r in
    ahead_rows t e.moment (record {
      slices = each (SliceAhead e.moment) t.tasks (slices_after s e.moment e.kind o f g r);
      pairs = λ b c. each (PairAhead e.moment b) t.tasks (each (λ (x : BotRow). All (PairAhead e.moment x) t.tasks) t.bots pairs b c);
      bots = subst (λ (settings : PoolSettings). (b : BotRow) → Among b t.bots → BotAhead settings.death_timeout_secs e.moment b) (sym (settings_same s e.moment e.kind))
          (each (BotAhead s.settings.death_timeout_secs e.moment) t.bots (bots_after s e.moment e.kind o f g s.settings.death_timeout_secs r.bots));
      blobs = each (BlobAhead e.moment) t.blobs (blobs_ahead s e o follows (all (BlobAhead e.moment) s.blobs r.blobs));
    })
