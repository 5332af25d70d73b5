-- A bot's row stays sound.
use Rattle.std.proofs.Common.{◌≡◌, ℕ, ◌+◌, ◌≤◌, min, Bool, true, false, List, [], ◌∷◌, length, refl, sym, subst, arith, Option, Some, None, IfSome, IsTrue}
use Rattle.std.specs.Prelude.{unwrap_or, nat_le}
use Rattle.std.specs.List.{All}
use Rattle.std.specs.Option.{option_map_or}
use Rattle.std.proofs.lemmas.Bool.{cond_both, and_parts, and_from}
use Rattle.std.proofs.lemmas.Option.{IfSome_then}
use Rattle.pool_laws.specs.Types.{Text, BotDims, BotRow, Chunk, PoolState, PoolSettings, Entry, EntryKind, EventKind}
use Rattle.swarm_model.specs.declared.entry.EntryKind.TheVariants as kind
use Rattle.swarm_model.specs.declared.entry.EventKind.TheVariants as event
use Rattle.swarm_model.specs.declared.request.Request.TheVariants as ask
use Rattle.swarm_model.specs.Finding.{bot_of}
use Rattle.swarm_model.specs.Fits.{fits, fits_bot, fits_message, is_name}
use Rattle.swarm_model.specs.Effects.{no_of_task, task_after, added_tasks, added_bots, silent_bot, session_row, polled, assigned_bot, heard, event_effect, streak_after, after, with_blobs, put_chunk, fresh_chunk, attempt_of}
use Rattle.swarm_model.specs.History.{MayFollow}
use Rattle.swarm_model.specs.Soundness.{IsSound, IsSoundBot}
use Rattle.pool_laws.proofs.Lists.{Among, each_one, number_within}
use Rattle.pool_laws.proofs.Preconditions.{FindsClaim}
use Rattle.pool_laws.proofs.EntryPreconditions.{IsFitting, finds, fitting}
use Rattle.pool_laws.proofs.Rows.{bot_by, bot_is, all_bots, no_fewer, claim_gets, relieved}

-- no entry changes the settings

-- a chunk that is kept leaves them
chunk_settings : (s : PoolState) (m : ℕ) (chunk : Option Chunk) → (put_chunk s m chunk).settings ≡ s.settings
chunk_settings s m None = refl
chunk_settings s m (Some chunk) = refl

-- and so does every entry
pub settings_same : (s : PoolState) (m : ℕ) (k : EntryKind) → (with_blobs s m k).settings ≡ s.settings
settings_same s m (kind.Blob n true) = refl
settings_same s m (kind.Blob n false) = refl
settings_same s m (kind.Update b t try_no chunk last) = chunk_settings s m (fresh_chunk (attempt_of s t) chunk)
settings_same s m (kind.Put digest size) = refl
settings_same s m entry = refl

-- what a bot's row holds makes a handshake that may be asked

-- a poll that may be asked brings what a handshake may bring
polled_fits : (settings : PoolSettings) (name session : List ℕ) (dims new : BotDims) (q text : List ℕ) → IsTrue (fits settings (ask.Handshake name session dims q)) → IsTrue (fits settings (ask.Poll name new text)) →
    IsTrue (fits settings (ask.Handshake name session new text))
polled_fits settings name session dims new q text h p =
    let old = and_parts (is_name session) (nat_le (length q) 256) (and_parts (fits_bot settings name dims) _ h).1 in
    let both = and_parts (fits_bot settings name new) (nat_le (length text) 256) p in
    and_from _ _ both.0 (and_from _ _ old.0 both.1)

-- a short text may take the place of the quarantine
told_fits : (settings : PoolSettings) (name session : List ℕ) (dims : BotDims) (q text : List ℕ) → IsTrue (fits settings (ask.Handshake name session dims q)) → nat_le (length text) 256 ≡ true →
    IsTrue (fits settings (ask.Handshake name session dims text))
told_fits settings name session dims q text h low =
    let both = and_parts (fits_bot settings name dims) _ h in
    let old = and_parts (is_name session) (nat_le (length q) 256) both.1 in
    and_from _ _ both.0 (and_from _ _ old.0 low)

-- a streak of naps ends at 63
few_naps : (hint : Bool) (x : BotRow) → x.streak ≤ 63 → streak_after hint x ≤ 63
few_naps true x low = omega arith
few_naps false x low = cond_both x.terminating x.streak (min 63 (x.streak + 1)) (λ (n : ℕ). n ≤ 63) (λ t. low) (λ t. omega arith)

module _ (s : PoolState) (e : Entry) (o : IsSound s) (follows : MayFollow s e) where
  -- what fits the pool fits it after the entry
  after_fits : (name session : List ℕ) (dims : BotDims) (q : List ℕ) → IsTrue (fits s.settings (ask.Handshake name session dims q)) → IsTrue (fits (after s e).settings (ask.Handshake name session dims q))
  after_fits name session dims q h =
      subst (λ (settings : PoolSettings). IsTrue (fits settings (ask.Handshake name session dims q))) (sym (settings_same s e.moment e.kind)) h

  -- no task goes
  more_tasks : length s.tasks ≤ length (after s e).tasks
  more_tasks = no_fewer (task_after s e.moment e.kind) s.tasks (added_tasks e.moment e.kind)

  -- a task that is there stays there
  still_task : (r : Option ℕ) → IfSome r (λ t. (1 ≤ t) × (t ≤ length s.tasks)) → IfSome r (λ t. (1 ≤ t) × (t ≤ length (after s e).tasks))
  still_task r h = IfSome_then r h (λ t is. let l = more_tasks in let low = is.1 in (is.0, omega (arith, l, low)))

  module _ (x : BotRow) (sound : IsSoundBot s x) where
    -- a row as it was
    kept_sound : IsSoundBot (after s e) x
    kept_sound =
        let was = sound.contact in
        let before = follows.not_before in
        record { contact = omega (arith, before, was); streak = sound.streak; known = after_fits x.name x.session x.dims x.quarantined sound.known; has_task = still_task x.task sound.has_task }

    -- of a bot that is silent, and whose run is lost
    silent_bot_sound : IsSoundBot (after s e) (silent_bot x)
    silent_bot_sound = record { contact = kept_sound.contact; streak = sound.streak; known = kept_sound.known; has_task = tt }

    -- of a bot that is marked dead, or terminating
    same_sound : (b : Bool) (term : Bool) → IsSoundBot (after s e) (record x { dead = b; terminating = term })
    same_sound b term = record { contact = kept_sound.contact; streak = sound.streak; known = kept_sound.known; has_task = kept_sound.has_task }

    -- of a bot that was heard
    heard_sound : IsSoundBot (after s e) (heard e.moment x)
    heard_sound = record { contact = omega arith; streak = sound.streak; known = kept_sound.known; has_task = kept_sound.has_task }

    -- that is done with its task
    relieved_sound : IsSoundBot (after s e) (relieved e.moment x)
    relieved_sound = record { contact = omega arith; streak = sound.streak; known = kept_sound.known; has_task = tt }

    -- that polled
    polled_sound : (dims : Option BotDims) (q : Option Text) (hint : Bool) → IsTrue (fits s.settings (ask.Poll x.name (unwrap_or dims x.dims) (unwrap_or q x.quarantined))) →
        IsSoundBot (after s e) (polled e.moment dims q hint x)
    polled_sound dims q hint may =
        record {
          contact = omega arith;
          streak = few_naps hint x sound.streak;
          known = after_fits x.name x.session (unwrap_or dims x.dims) (unwrap_or q x.quarantined) (polled_fits s.settings x.name x.session x.dims (unwrap_or dims x.dims) x.quarantined (unwrap_or q x.quarantined) sound.known may);
          has_task = kept_sound.has_task;
        }

    -- that began a task
    assigned_bot_sound : (b t : ℕ) (id : List ℕ) → FindsClaim s b t id → IsSoundBot (after s e) (assigned_bot e.moment t x)
    assigned_bot_sound b t id f =
        let named = f.task_named in
        let within = number_within no_of_task 1 s.tasks o.tasks_numbered f.task (claim_gets s b t id f).among in
        let first = within.0 in
        let there = within.1 in
        let more = more_tasks in
        record { contact = omega arith; streak = sound.streak; known = kept_sound.known; has_task = (omega (arith, named, first), omega (arith, named, there, more)) }

    -- that told of itself
    event_effect_sound : (which : EventKind) (text : List ℕ) → fits_message which text ≡ true → IsSoundBot (after s e) (event_effect e.moment which text x)
    event_effect_sound event.Ping text may = heard_sound
    event_effect_sound event.Quarantine text may =
        record {
          contact = omega arith;
          streak = sound.streak;
          known = after_fits x.name x.session x.dims text (told_fits s.settings x.name x.session x.dims x.quarantined text sound.known (and_parts (nat_le 1 (length text)) (nat_le (length text) 256) may).1);
          has_task = kept_sound.has_task;
        }
    event_effect_sound event.Unquarantine text may =
        record { contact = omega arith; streak = sound.streak; known = after_fits x.name x.session x.dims [] (told_fits s.settings x.name x.session x.dims x.quarantined [] sound.known refl); has_task = kept_sound.has_task }

  -- or that came with a new session
  session_row_sound : (b : ℕ) (id session : List ℕ) (dims : BotDims) (q : List ℕ) → IsTrue (fits s.settings (ask.Handshake id session dims q)) → IsSoundBot (after s e) (session_row e.moment b id session dims q)
  session_row_sound b id session dims q may = record { contact = omega arith; streak = omega arith; known = after_fits id session dims q may; has_task = tt }

  -- a row that is added
  added_sound : (k : EntryKind) → IsFitting s k → (x : BotRow) → Among x (added_bots s e.moment k) → IsSoundBot (after s e) x
  added_sound (kind.Handshake b id session dims q) may x a = by_old (bot_of s b) a
    where
      by_old : (r : Option BotRow) → Among x (option_map_or (λ old. []) r (session_row e.moment b id session dims q ∷ [])) → IsSoundBot (after s e) x
      by_old None c = each_one (IsSoundBot (after s e)) (session_row e.moment b id session dims q) (session_row_sound b id session dims q may) x c
      by_old (Some old) c = elim c [ ]
  added_sound k may x a = elim a [ ]

  -- all rows of bots are sound after the entry
  pub bots_sound : All (IsSoundBot (after s e)) (after s e).bots
  bots_sound =
      all_bots (IsSoundBot (after s e)) s e.moment e.kind
      (λ x a. let was = bot_is s o x a in bot_by (IsSoundBot (after s e)) s e.moment o x a (record {
        same = kept_sound x was;
        hushes = silent_bot_sound x was;
        dies = same_sound x was true x.terminating;
        greets = λ b id session dims q is named may. session_row_sound b id session dims q may;
        polls = polled_sound x was;
        busies = assigned_bot_sound x was;
        hears = heard_sound x was;
        notes = event_effect_sound x was;
        rests = relieved_sound x was;
        stops = same_sound x was x.dead true;
      }) e.kind (finds s e follows) (fitting s e follows))
      (added_sound e.kind (fitting s e follows))
