-- A task's row stays sound.
use Rattle.std.proofs.Common.{◌≡◌, ℕ, ◌+◌, ◌≤◌, ◌==◌, ◌&&◌, ◌||◌, not, Bool, true, false, cond, eqb-true, List, [], length, refl, sym, ap, ◌∙◌, subst, arith, Option, Some, None, IfSome, is_some, is_none}
use Rattle.std.specs.List.{All}
use Rattle.std.specs.Prelude.{slice_get}
use Rattle.std.specs.Option.{option_map, option_map_or, option_and_then}
use Rattle.std.proofs.lemmas.Bool.{cond_both, and_parts, eqb-false}
use Rattle.std.proofs.lemmas.Option.{IfSome_then, same_Some}
use Rattle.task_props.proofs.Checked.{slices_counted}
use Rattle.pool_laws.specs.Types.{TaskState, Pending, Running, Expired, TimedOut, BotDied, Completed, Killed, NoResource, Attempt, Chunk, Last, Retried, PoolSettings, Slice, TaskRow, PoolState, Entry, EntryKind}
use Rattle.swarm_model.specs.declared.entry.EntryKind.TheVariants as kind
use Rattle.swarm_model.specs.declared.entry.Outcome.TheVariants as outcome
use Rattle.swarm_model.specs.Finding.{is_state, is_final}
use Rattle.swarm_model.specs.Slices.{admit, current_slice, is_kept_from}
use Rattle.swarm_model.specs.Deadlines.{next_of, last_state}
use Rattle.swarm_model.specs.Effects.{no_of_bot, added_tasks, added_bots, bot_after, expired_slice, is_tried_again, is_first_run, is_idempotent, retried_from, retried_run, died_run, next_try, lost_run, canceled, killed, kill_marked, started_run, with_chunk, lengthened, with_last_report, reported, ended_run, end_state, new_row, end_at, after}
use Rattle.swarm_model.specs.History.{MayFollow}
use Rattle.swarm_model.specs.Soundness.{IsSound, IsSoundTask, IsSoundOutput, IsSoundRetried, IsRightTry, runner}
use Rattle.pool_laws.proofs.Lists.{Among, each_one, number_within}
use Rattle.pool_laws.proofs.Outputs.{IsFitChunk, fit_chunk, output_begun, output_longer, output_killed, output_closed, output_map}
use Rattle.pool_laws.proofs.Preconditions.{Finds, FindsClaim, waits, runs}
use Rattle.pool_laws.proofs.EntryPreconditions.{finds, admit_within}
use Rattle.pool_laws.proofs.Rows.{GoesOn, task_by, task_is, all_tasks, no_fewer, runner_in, fits_in, lost_is, claim_not_kept}
use Rattle.pool_laws.proofs.Bots.{settings_same}

-- states

-- a run ends in a final state
pub end_final : (attempt : Option Attempt) (state : TaskState) → is_final state ≡ true → is_final (end_state attempt state) ≡ true
end_final None state f = f
end_final (Some a) state f = cond_both a.kill Killed state (λ x. is_final x ≡ true) (λ t. refl) (λ t. f)

-- what a report says is one
pub reported_final : (last : Last) → is_final (reported last) ≡ true
reported_final last = cond_both (last.hard_timeout || last.io_timeout) TimedOut Completed (λ state. is_final state ≡ true) (λ t. refl) (λ t. refl)

-- so a run that was reported has ended
pub finished_final : (m : ℕ) (chunk : Option Chunk) (last : Last) (x : TaskRow) → is_final (ended_run m chunk last x).state ≡ true
finished_final m chunk last x = end_final x.attempt (reported last) (reported_final last)

-- a task whose slices ran out does
pub last_final : (x : TaskRow) → is_final (last_state x) ≡ true
last_final x = cond_both (x.slice + 1 == length x.request.task_slices) Expired NoResource (λ state. is_final state ≡ true) (λ t. refl) (λ t. refl)

-- a final state is not pending
pub not_pending : (state : TaskState) → is_final state ≡ true → is_state state Pending ≡ false
not_pending Pending e = absurd (cc (e))
not_pending state e = refl

-- nor running
pub not_running : (state : TaskState) → is_final state ≡ true → is_state state Running ≡ false
not_running Running e = absurd (cc (e))
not_running state e = refl

-- who runs a task

-- nobody runs what waits
pub runner_waits : (state : TaskState) (attempt : Option Attempt) → is_state state Pending ≡ true → runner_in state attempt ≡ None
runner_waits Pending attempt e = refl
runner_waits state attempt e = absurd (cc (e))

-- nor what is over
pub runner_final : (state : TaskState) (attempt : Option Attempt) → is_final state ≡ true → runner_in state attempt ≡ None
runner_final Pending attempt f = absurd (cc (f))
runner_final Running attempt f = absurd (cc (f))
runner_final state attempt f = refl

-- nor what is lost
pub runner_lost : (retries m : ℕ) (x : TaskRow) → runner (lost_run retries m x) ≡ None
runner_lost retries m x =
    lost_is (λ (y : TaskRow). runner y ≡ None) retries m x (λ t. refl) (λ t. runner_final (end_state x.attempt BotDied) x.attempt (end_final x.attempt BotDied refl))

-- nor what a report ended
pub runner_finished : (m : ℕ) (chunk : Option Chunk) (last : Last) (x : TaskRow) → runner (ended_run m chunk last x) ≡ None
runner_finished m chunk last x = runner_final (ended_run m chunk last x).state (ended_run m chunk last x).attempt (finished_final m chunk last x)

-- whoever runs a task that is to stop runs it still
pub runner_marked : (x : TaskRow) → runner (kill_marked x) ≡ runner x
runner_marked x = by_attempt x.attempt
  where
    by_attempt : (attempt : Option Attempt) → runner_in x.state (option_map killed attempt) ≡ runner_in x.state attempt
    by_attempt None = refl
    by_attempt (Some a) = refl

-- and so does whoever runs one whose output goes on
pub runner_longer : (chunk : Chunk) (x : TaskRow) → runner (lengthened chunk x) ≡ runner x
runner_longer chunk x = by_attempt x.attempt
  where
    by_attempt : (attempt : Option Attempt) → runner_in x.state (option_map (with_chunk chunk) attempt) ≡ runner_in x.state attempt
    by_attempt None = refl
    by_attempt (Some a) = refl

-- a task that waits has no runner, and none after its slice ran out
pub runner_moved : (s : PoolState) (m : ℕ) (x : TaskRow) → waits x ≡ true → runner (expired_slice m (next_of s x) x) ≡ None
runner_moved s m x w = by_place (admit s x.request.task_slices (x.slice + 1))
  where
    by_place : (o : Option ℕ) → runner (expired_slice m (option_map_or outcome.Slice o (outcome.Ended (last_state x))) x) ≡ None
    by_place None = runner_final (last_state x) x.attempt (last_final x)
    by_place (Some place) = runner_waits x.state x.attempt w

-- the attempt and the end that go with a state

-- a final state has an end
final_fits : (state : TaskState) (attempt : Option Attempt) (ended : Option ℕ) → is_final state ≡ true → is_some ended ≡ true → fits_in state attempt ended ≡ true
final_fits Pending attempt ended f h = absurd (cc (f))
final_fits Running attempt ended f h = absurd (cc (f))
final_fits state attempt ended f h = h

-- what waits has none
waits_fits : (state : TaskState) (attempt : Option Attempt) (ended : Option ℕ) → is_state state Pending ≡ true → fits_in state attempt ended ≡ true → is_none ended ≡ true
waits_fits Pending attempt ended p h = (and_parts (is_none attempt) (is_none ended) h).1
waits_fits state attempt ended p h = absurd (cc (p))

-- what runs has no end
runs_fits : (state : TaskState) (attempt : Option Attempt) (ended : Option ℕ) → is_state state Running ≡ true → fits_in state attempt ended ≡ true → (is_none (option_and_then (λ (a : Attempt). a.last) attempt) ≡ true) × (is_none ended ≡ true)
runs_fits Running attempt ended r h = and_parts _ _ (and_parts (is_some attempt) _ h).1
runs_fits state attempt ended r h = absurd (cc (r))

-- a run that is to stop is still one
marked_fits : (state : TaskState) (attempt : Option Attempt) (ended : Option ℕ) → fits_in state attempt ended ≡ true → fits_in state (option_map killed attempt) ended ≡ true
marked_fits state None ended h = h
marked_fits state (Some a) ended h = h

-- and so is one whose output goes on
longer_fits : (chunk : Chunk) (state : TaskState) (attempt : Option Attempt) (ended : Option ℕ) → fits_in state attempt ended ≡ true → fits_in state (option_map (with_chunk chunk) attempt) ended ≡ true
longer_fits chunk state None ended h = h
longer_fits chunk state (Some a) ended h = h

-- a new task has none, where it waits
new_fits : (m : ℕ) (state : TaskState) → is_state state Running ≡ false → fits_in state None (end_at state m) ≡ true
new_fits m Pending i = refl
new_fits m Running i = absurd (cc (i))
new_fits m state i = refl

-- nor a runner
runner_new : (state : TaskState) → is_state state Running ≡ false → runner_in state None ≡ None
runner_new state i = cond_both (is_state state Running) None None (λ (r : Option ℕ). r ≡ None) (λ t. refl) (λ t. refl)

-- a task that an entry adds has no runner
pub added_idle : (s : PoolState) (m : ℕ) (k : EntryKind) → Finds s k → (x : TaskRow) → Among x (added_tasks m k) → runner x ≡ None
added_idle s m (kind.New t who request state slice from) f x a =
    each_one (λ (y : TaskRow). runner y ≡ None) (new_row m t who request state slice from) (runner_new state f.idle) x a
added_idle s m entry f x a = elim a [ ]

-- a chunk that goes on from the output
longer_output : (chunk : Chunk) (r : Option Attempt) (attempt : Attempt) → r ≡ Some attempt → chunk.start ≡ attempt.length → IsFitChunk chunk → IfSome r IsSoundOutput → IfSome (option_map (with_chunk chunk) r) IsSoundOutput
longer_output chunk None attempt has begins fit h = tt
longer_output chunk (Some a) attempt has begins fit h = output_longer a chunk h (begins ∙ ap (λ (z : Attempt). z.length) (sym (same_Some _ _ has))) fit

-- a change of a run that keeps its try and its bot
tries_map : (change : Attempt → Attempt) → ((a : Attempt) → (change a).try_no ≡ a.try_no) → ((a : Attempt) → (change a).bot ≡ a.bot) → (r : Option Retried) (o : Option Attempt) → IfSome o (IsRightTry r) →
    IfSome (option_map change o) (IsRightTry r)
tries_map change e g r None h = tt
tries_map change e g None (Some a) h = e a ∙ h
tries_map change e g (Some lost) (Some a) h = (e a ∙ h.0, λ same. h.1 (sym (g a) ∙ same))

-- the run that a bot begins is the task's first, or its second where one was tried again, by another bot
begun_try : (m b : ℕ) (id : List ℕ) (x : TaskRow) → is_kept_from b x ≡ false → IsRightTry x.retried (record { try_no = next_try x; bot = b; claim = id; begun = m; kill = false; chunks = []; length = 0; last = None; last_chunk = None })
begun_try m b id x kept = by_retried x.retried kept
  where
    by_retried : (r : Option Retried) → option_map_or (λ (other : ℕ). other == b) (option_map (λ (lost : Retried). lost.attempt.bot) r) false ≡ false →
        IsRightTry r (record { try_no = cond (is_some r) 2 1; bot = b; claim = id; begun = m; kill = false; chunks = []; length = 0; last = None; last_chunk = None })
    by_retried None k = refl
    by_retried (Some lost) k = (refl, λ same. eqb-false lost.attempt.bot b k (sym same))

-- what a run shows that is tried again
record TriedAgain (retries : ℕ) (x : TaskRow) (attempt : Attempt) : Type 0 where
  setting : retries ≡ 1
  first : attempt.try_no ≡ 1
  not_killed : attempt.kill ≡ false
  slice : Slice
  is_slice : slice_get x.request.task_slices x.slice ≡ Some slice
  idempotent : slice.properties.idempotent ≡ true

tried_again : (retries : ℕ) (x : TaskRow) (attempt : Attempt) → x.attempt ≡ Some attempt → is_tried_again retries x ≡ true → TriedAgain retries x attempt
tried_again retries x attempt has t = by_slice (current_slice x) refl both.1
  where
    parts : ((retries == 1) ≡ true) × ((is_first_run x.attempt && is_idempotent x) ≡ true)
    parts = and_parts (retries == 1) (is_first_run x.attempt && is_idempotent x) t

    both : (is_first_run x.attempt ≡ true) × (is_idempotent x ≡ true)
    both = and_parts (is_first_run x.attempt) (is_idempotent x) parts.1

    run : ((attempt.try_no == 1) ≡ true) × (not attempt.kill ≡ true)
    run = and_parts (attempt.try_no == 1) (not attempt.kill) (sym (ap is_first_run has) ∙ both.0)

    not_true : (b : Bool) → not b ≡ true → b ≡ false
    not_true false e = refl
    not_true true e = absurd (cc (e))

    by_slice : (r : Option Slice) → current_slice x ≡ r → option_map_or (λ (slice : Slice). slice.properties.idempotent) r false ≡ true → TriedAgain retries x attempt
    by_slice None g e = absurd (cc (e))
    by_slice (Some slice) g e =
        record { setting = eqb-true retries 1 parts.0; first = eqb-true attempt.try_no 1 run.0; not_killed = not_true attempt.kill run.1; slice = slice; is_slice = g; idempotent = e }

-- no last update
last_none : (r : Option Last) → is_none r ≡ true → r ≡ None
last_none None e = refl
last_none (Some last) e = absurd (cc (e))

-- each row, and each row that is added

module _ (s : PoolState) (e : Entry) (o : IsSound s) (follows : MayFollow s e) where
  -- the entry is not from before
  may : s.last ≤ e.moment
  may = follows.not_before

  -- no runner needs no row
  no_bot : (r : Option ℕ) → r ≡ None → IfSome r (λ b. b ≤ length (after s e).bots)
  no_bot None g = tt
  no_bot (Some b) g = absurd (cc (g))

  -- no bot goes
  more_bots : length s.bots ≤ length (after s e).bots
  more_bots = no_fewer (bot_after e.moment e.kind) s.bots (added_bots s e.moment e.kind)

  -- a bot that is there stays there
  still_bot : (r : Option ℕ) → IfSome r (λ b. b ≤ length s.bots) → IfSome r (λ b. b ≤ length (after s e).bots)
  still_bot r h = IfSome_then r h (λ b low. let l = more_bots in omega (arith, l, low))

  -- a run that was tried again stays so
  still_retried : (slices : List Slice) (r : Option Retried) → IfSome r (IsSoundRetried s slices) → IfSome r (IsSoundRetried (after s e) slices)
  still_retried slices None h = tt
  still_retried slices (Some lost) h =
      let was = h.over in
      let before = may in
      record {
        setting = ap (λ (settings : PoolSettings). settings.retries) (settings_same s e.moment e.kind) ∙ h.setting;
        slice = h.slice;
        is_slice = h.is_slice;
        idempotent = h.idempotent;
        first = h.first;
        not_killed = h.not_killed;
        no_last = h.no_last;
        output = h.output;
        over = omega (arith, before, was);
      }

  -- a row that moved
  moved_sound : (x : TaskRow) → IsSoundTask s x → waits x ≡ true → (r : Option ℕ) → admit s x.request.task_slices (x.slice + 1) ≡ r →
      IsSoundTask (after s e) (expired_slice e.moment (option_map_or outcome.Slice r (outcome.Ended (last_state x))) x)
  moved_sound x sound w (Some place) h =
      let low = sound.has_slice in
      record {
        checked = sound.checked;
        has_slice = admit_within s x.request.task_slices (x.slice + 1) place (omega (arith, low)) h;
        since = omega arith;
        state = sound.state;
        has_bot = still_bot (runner x) sound.has_bot;
        output = sound.output;
        retried = still_retried x.request.task_slices x.retried sound.retried;
        tries = sound.tries;
      }
  moved_sound x sound w None h =
      let many = (slices_counted x.request sound.checked).0 in
      let was = sound.since in
      let before = may in
      record {
        checked = sound.checked;
        has_slice = omega (arith, many);
        since = omega (arith, before, was);
        state = final_fits (last_state x) x.attempt (Some e.moment) (last_final x) refl;
        has_bot = no_bot (runner_in (last_state x) x.attempt) (runner_final (last_state x) x.attempt (last_final x));
        output = sound.output;
        retried = still_retried x.request.task_slices x.retried sound.retried;
        tries = sound.tries;
      }

  -- that is tried again
  again_sound : (x : TaskRow) → IsSoundTask s x → runs x ≡ true → is_tried_again s.settings.retries x ≡ true → (r : Option Attempt) → x.attempt ≡ r → IsSoundTask (after s e) (retried_run e.moment x)
  again_sound x sound r t None has = absurd (cc (sym (ap is_first_run has) ∙ (and_parts (is_first_run x.attempt) (is_idempotent x) (and_parts (s.settings.retries == 1) _ t).1).0))
  again_sound x sound r t (Some attempt) has =
      let f = tried_again s.settings.retries x attempt has t in
      let fits = runs_fits x.state x.attempt x.ended r sound.state in
      record {
        checked = sound.checked;
        has_slice = sound.has_slice;
        since = omega arith;
        state = fits.1;
        has_bot = tt;
        output = tt;
        retried = subst (λ (o : Option Attempt). IfSome (option_map (retried_from e.moment x.slice) o) (IsSoundRetried (after s e) x.request.task_slices)) (sym has) (record {
          setting = ap (λ (settings : PoolSettings). settings.retries) (settings_same s e.moment e.kind) ∙ f.setting;
          slice = f.slice;
          is_slice = f.is_slice;
          idempotent = f.idempotent;
          first = f.first;
          not_killed = f.not_killed;
          no_last = last_none attempt.last (subst (λ (o : Option Attempt). is_none (option_and_then (λ (a : Attempt). a.last) o) ≡ true) has fits.0);
          output = subst (λ (o : Option Attempt). IfSome o IsSoundOutput) has sound.output;
          over = omega arith;
        });
        tries = tt;
      }

  -- that is over with its bot
  died_sound : (x : TaskRow) → IsSoundTask s x → IsSoundTask (after s e) (died_run e.moment x)
  died_sound x sound =
      let was = sound.since in
      let before = may in
      record {
        checked = sound.checked;
        has_slice = sound.has_slice;
        since = omega (arith, before, was);
        state = final_fits (end_state x.attempt BotDied) x.attempt (Some e.moment) (end_final x.attempt BotDied refl) refl;
        has_bot = no_bot (runner (died_run e.moment x)) (runner_final (end_state x.attempt BotDied) x.attempt (end_final x.attempt BotDied refl));
        output = sound.output;
        retried = still_retried x.request.task_slices x.retried sound.retried;
        tries = sound.tries;
      }

  -- that was lost
  lost_sound : (x : TaskRow) → IsSoundTask s x → runs x ≡ true → IsSoundTask (after s e) (lost_run s.settings.retries e.moment x)
  lost_sound x sound r = lost_is (IsSoundTask (after s e)) s.settings.retries e.moment x (λ t. again_sound x sound r t x.attempt refl) (λ t. died_sound x sound)

  -- that was canceled
  canceled_sound : (x : TaskRow) → IsSoundTask s x → IsSoundTask (after s e) (canceled e.moment x)
  canceled_sound x sound =
      let was = sound.since in
      let before = may in
      record { checked = sound.checked; has_slice = sound.has_slice; since = omega (arith, before, was); state = refl; has_bot = no_bot None refl; output = sound.output; retried = still_retried x.request.task_slices x.retried sound.retried; tries = sound.tries }

  -- whose run is to stop
  marked_sound : (x : TaskRow) → IsSoundTask s x → IsSoundTask (after s e) (kill_marked x)
  marked_sound x sound =
      let was = sound.since in
      let before = may in
      record {
        checked = sound.checked;
        has_slice = sound.has_slice;
        since = omega (arith, before, was);
        state = marked_fits x.state x.attempt x.ended sound.state;
        has_bot = still_bot (runner (kill_marked x)) (subst (λ (r : Option ℕ). IfSome r (λ b. b ≤ length s.bots)) (sym (runner_marked x)) sound.has_bot);
        output = output_map killed output_killed x.attempt sound.output;
        retried = still_retried x.request.task_slices x.retried sound.retried;
        tries = tries_map killed (λ a. refl) (λ a. refl) x.retried x.attempt sound.tries;
      }

  -- whose output goes on
  longer_sound : (chunk : Chunk) (x : TaskRow) → IsSoundTask s x → GoesOn chunk x → IsSoundTask (after s e) (lengthened chunk x)
  longer_sound chunk x sound g =
      let was = sound.since in
      let before = may in
      record {
        checked = sound.checked;
        has_slice = sound.has_slice;
        since = omega (arith, before, was);
        state = longer_fits chunk x.state x.attempt x.ended sound.state;
        has_bot = still_bot (runner (lengthened chunk x)) (subst (λ (r : Option ℕ). IfSome r (λ b. b ≤ length s.bots)) (sym (runner_longer chunk x)) sound.has_bot);
        output = longer_output chunk x.attempt g.attempt g.attempted g.begins (fit_chunk chunk g.fits) sound.output;
        retried = still_retried x.request.task_slices x.retried sound.retried;
        tries = tries_map (with_chunk chunk) (λ a. refl) (λ a. refl) x.retried x.attempt sound.tries;
      }

  -- whose run was reported to its end
  finished_sound : (chunk : Option Chunk) (last : Last) (x : TaskRow) → IsSoundTask (after s e) x → IsSoundTask (after s e) (ended_run e.moment chunk last x)
  finished_sound chunk last x sound =
      let y : TaskRow = ended_run e.moment chunk last x in
      record {
        checked = sound.checked;
        has_slice = sound.has_slice;
        since = sound.since;
        state = final_fits y.state y.attempt y.ended (finished_final e.moment chunk last x) refl;
        has_bot = no_bot (runner y) (runner_finished e.moment chunk last x);
        output = output_map (with_last_report chunk last) (λ a h. output_closed a chunk last h) x.attempt sound.output;
        retried = sound.retried;
        tries = tries_map (with_last_report chunk last) (λ a. refl) (λ a. refl) x.retried x.attempt sound.tries;
      }

  -- that a bot began
  begun_sound : (x : TaskRow) → IsSoundTask s x → waits x ≡ true → (b t : ℕ) (id : List ℕ) → (f : FindsClaim s b t id) → f.task ≡ x → IsSoundTask (after s e) (started_run e.moment b id x)
  begun_sound x sound w b t id f own =
      let was = sound.since in
      let before = may in
      let named = f.named in
      let there = (number_within no_of_bot 1 s.bots o.bots_numbered f.bot f.among).1 in
      let more = more_bots in
      record {
        checked = sound.checked;
        has_slice = sound.has_slice;
        since = omega (arith, before, was);
        state = waits_fits x.state x.attempt x.ended w sound.state;
        has_bot = omega (arith, named, there, more);
        retried = still_retried x.request.task_slices x.retried sound.retried;
        tries = begun_try e.moment b id x (claim_not_kept s b t id f x own);
        output = output_begun (record { try_no = next_try x; bot = b; claim = id; begun = e.moment; kill = false; chunks = []; length = 0; last = None; last_chunk = None }) refl refl;
      }

  -- that stayed as it was
  kept_sound : (x : TaskRow) → IsSoundTask s x → IsSoundTask (after s e) x
  kept_sound x sound =
      let was = sound.since in
      let before = may in
      record { checked = sound.checked; has_slice = sound.has_slice; since = omega (arith, before, was); state = sound.state; has_bot = still_bot (runner x) sound.has_bot; output = sound.output; retried = still_retried x.request.task_slices x.retried sound.retried; tries = sound.tries }

  -- or that is added
  added_sound : (k : EntryKind) → Finds s k → (x : TaskRow) → Among x (added_tasks e.moment k) → IsSoundTask (after s e) x
  added_sound (kind.New t who request state slice from) f x a =
      each_one (IsSoundTask (after s e)) (new_row e.moment t who request state slice from) (record {
        checked = f.checked;
        has_slice = f.has_slice;
        since = omega arith;
        state = new_fits e.moment state f.idle;
        has_bot = no_bot (runner_in state None) (runner_new state f.idle);
        output = tt;
        retried = tt;
        tries = tt;
      }) x a
  added_sound k f x a = elim a [ ]

  -- all rows of tasks are sound after the entry
  pub tasks_sound : All (IsSoundTask (after s e)) (after s e).tasks
  tasks_sound =
      all_tasks (IsSoundTask (after s e)) s e.moment e.kind
      (λ x a. task_by (IsSoundTask (after s e)) s e.moment o x a e.kind (finds s e follows) (record {
        same = kept_sound x (task_is s o x a);
        moves = λ w. moved_sound x (task_is s o x a) w (admit s x.request.task_slices (x.slice + 1)) refl;
        loses = λ w. lost_sound x (task_is s o x a) w;
        begins = λ b t id is f w own. begun_sound x (task_is s o x a) w b t id f own;
        cancels = λ w. canceled_sound x (task_is s o x a);
        marks = λ w. marked_sound x (task_is s o x a);
        grows = λ chunk fresh g w. longer_sound chunk x (task_is s o x a) g;
        finishes = λ chunk last report y w sound. finished_sound chunk last y sound;
      }))
      (added_sound e.kind (finds s e follows))
