-- What a log has of a bot, a longer log has, too.
use Rattle.std.proofs.Common.{◌≡◌, ◌⊎◌, inl, inr, ℕ, List, [], ◌∷◌, ◌++◌, Option, Some, None, refl, ap, sym, ◌∙◌, subst}
use Rattle.std.specs.Prelude.{slice_get, IsSomeAnd}
use Rattle.std.specs.Bool.{MatchBool}
use Rattle.std.specs.List.{Contains}
use Rattle.std.specs.Option.{option_map}
use Rattle.std.proofs.lemmas.List.{append_assoc}
use Rattle.std.proofs.lemmas.List.Elements.{All-contains_itself, filter_map-append}
use Rattle.std.proofs.lemmas.Option.{same_Some}
use Rattle.bot_worlds.specs.Types.{Chunk, Last, BotRow, Entry, EntryKind, PoolState}
use Rattle.swarm_model.specs.declared.entry.EntryKind.TheVariants as kind
use Rattle.swarm_model.specs.Before.{bots_before}
use Rattle.swarm_model.specs.Claims.{claimants}
use Rattle.swarm_model.specs.Effects.{after}
use Rattle.swarm_model.specs.Entries.{asks, is_deadline, update_of}
use Rattle.swarm_model.specs.Finding.{bot_of}
use Rattle.swarm_model.specs.History.{replay, IsAnswered, IsCaused, IsDue, MayFollow}
use Rattle.swarm_model.specs.Soundness.{IsSound}
use Rattle.swarm_model.specs.Verdicts.{claimant}
use Rattle.pool_laws.proofs.Finals.{replay_parts, caused_first, caused_rest}
use Rattle.pool_laws.proofs.Lists.{Among, each, all, among_left, among_either}
use Rattle.pool_laws.proofs.Lists.Among.{here, later}
use Rattle.pool_laws.proofs.Sound.{sound_after, sound_replay}
use Rattle.log_laws.specs.Names.{name_of}
use Rattle.log_laws.specs.Runs.{HasEntry}
use Rattle.log_laws.proofs.NameLaw.{names_last, names_tell}
use Rattle.bot_worlds.specs.Invariant.{BotLog, HasReport, IsNumber, IsTryOf, claimed_by, rows_by}
use Rattle.bot_worlds.proofs.Grown.{IsLonger, slice_left, slice_within}

-- ---- elements, and entries

-- an element at a place, and the other way round
pub among_of : {X : Type 0} (xs : List X) (x : X) → Contains xs x → Among x xs
among_of xs x c = subst (λ z. Among z xs) c.2 (all (λ z. Among z xs) xs (λ z a. a) c.0 x c.1)

pub contains_of : {X : Type 0} (xs : List X) (x : X) → Among x xs → Contains xs x
contains_of xs x a = each (Contains xs) xs (All-contains_itself xs) x a

pub entry_among : (log : List Entry) (k : EntryKind) (e : Entry) → Among e log → e.kind ≡ k → HasEntry log k
entry_among log k e a is = record { entry = e; among = contains_of log e a; is = is }

pub entry_left : (log more : List Entry) (k : EntryKind) → HasEntry log k → HasEntry (log ++ more) k
entry_left log more k h = entry_among (log ++ more) k h.entry (among_left h.entry log more (among_of log h.entry h.among)) h.is

entry_either : (log more : List Entry) (k : EntryKind) → HasEntry (log ++ more) k → HasEntry log k ⊎ HasEntry more k
entry_either log more k h = by_part (among_either h.entry log more (among_of (log ++ more) h.entry h.among))
  where
    by_part : Among h.entry log ⊎ Among h.entry more → HasEntry log k ⊎ HasEntry more k
    by_part (inl a) = inl (entry_among log k h.entry a h.is)
    by_part (inr a) = inr (entry_among more k h.entry a h.is)

-- ---- numbers of bots

-- a name has one number
pub one_number : (l : BotLog) → IsSound (rows_by l) → (a b : ℕ) → IsNumber l a → IsNumber l b → a ≡ b
one_number l o a b h k = same_Some _ _ (sym ((names_tell (rows_by l) a l.name o).1 h) ∙ (names_tell (rows_by l) b l.name o).1 k)

abbrev name_in : Option BotRow → Option (List ℕ)
name_in r = option_map (λ (bot : BotRow). bot.name) r

-- the bot of an update that follows is there
updating_bot : (s : PoolState) (e : Entry) (b t n : ℕ) (chunk : Option Chunk) (last : Option Last) → MayFollow s e → e.kind ≡ kind.Update b t n chunk last → (name : List ℕ) × (name_of s b ≡ Some name)
updating_bot s e b t n chunk last follows is =
    by_bot (bot_of s b) refl
    (subst (λ (k : EntryKind). MatchBool (is_deadline k) (IsDue s e) (IsSomeAnd (asks s k) (IsAnswered s e))) is follows.has_cause)
  where
    by_bot : (r : Option BotRow) → bot_of s b ≡ r → IsSomeAnd (option_map (update_of t n chunk last) r) (IsAnswered s e) → (name : List ℕ) × (name_of s b ≡ Some name)
    by_bot None g h = absurd h
    by_bot (Some bot) g h = (bot.name, ap name_in g)

-- and stays
known_bot : (s : PoolState) (log : List Entry) → IsSound s → IsCaused s log → (e : Entry) → Among e log → (b t n : ℕ) (chunk : Option Chunk) (last : Option Last) → e.kind ≡ kind.Update b t n chunk last →
    (name : List ℕ) × (name_of (replay s log) b ≡ Some name)
known_bot s [] o c e a b t n chunk last is = elim a [ ]
known_bot s (y ∷ log) o c e here b t n chunk last is =
    let f = updating_bot s e b t n chunk last c.0 is in (f.0, names_last s (e ∷ log) b f.0 o c f.1)
known_bot s (y ∷ log) o c e (later a) b t n chunk last is = known_bot (after s y) log (sound_after s y o c.0) c.1 e a b t n chunk last is

-- ---- a longer log

-- the claims of a task come in the order of the log
pub claimed_longer : (l : BotLog) (more : List Entry) (t : ℕ) → claimed_by (record l { log = l.log ++ more }) t ≡ claimed_by l t ++ claimants t more
claimed_longer l more t =
    ap (λ (xs : List ℕ). bots_before l.start.rows t ++ xs) (filter_map-append (λ (e : Entry). claimant t e.kind) l.log more)
    ∙ sym (append_assoc (bots_before l.start.rows t) (claimants t l.log) (claimants t more))

pub try_longer : (l : BotLog) (more : List Entry) (t n b : ℕ) → IsTryOf l t n b → IsTryOf (record l { log = l.log ++ more }) t n b
try_longer l more t n b h = record {
  before = h.before;
  count = h.count;
  is = ap (λ (xs : List ℕ). slice_get xs h.before) (claimed_longer l more t) ∙ slice_left (claimed_by l t) (claimants t more) h.before (slice_within (claimed_by l t) h.before b h.is) ∙ h.is;
}

module _ (l : BotLog) (more : List Entry) (o : IsSound l.start.rows) (c : IsCaused l.start.rows (l.log ++ more)) where
  pub number_longer : (b : ℕ) (name : List ℕ) → name_of (rows_by l) b ≡ Some name → name_of (replay l.start.rows (l.log ++ more)) b ≡ Some name
  number_longer b name h =
      subst (λ (s : PoolState). name_of s b ≡ Some name) (sym (replay_parts l.start.rows l.log more))
      (names_last (rows_by l) more b name (sound_replay l.start.rows l.log o (caused_first l.start.rows l.log more c)) (caused_rest l.start.rows l.log more c) h)

  pub longer : IsLonger l (l.log ++ more)
  longer = record {
    claims = λ t n claim h. record {
      b = h.b;
      number = number_longer h.b l.name h.number;
      entry = entry_left l.log more (kind.Claim h.b t claim) h.entry;
      is_try = try_longer l more t n h.b h.is_try;
    };
    reports = λ t n chunk last h. record { b = h.b; number = number_longer h.b l.name h.number; entry = entry_left l.log more (kind.Update h.b t n chunk last) h.entry };
  }

  -- a report that the longer log has was there, or came with what was added
  pub old_report : (t n : ℕ) (chunk : Option Chunk) (last : Option Last) → (h : HasReport (record l { log = l.log ++ more }) t n chunk last) →
      HasReport l t n chunk last ⊎ HasEntry more (kind.Update h.b t n chunk last)
  old_report t n chunk last h = by_part (entry_either l.log more (kind.Update h.b t n chunk last) h.entry)
    where
      by_part : HasEntry l.log (kind.Update h.b t n chunk last) ⊎ HasEntry more (kind.Update h.b t n chunk last) → HasReport l t n chunk last ⊎ HasEntry more (kind.Update h.b t n chunk last)
      by_part (inr e) = inr e
      by_part (inl e) =
          (let f = known_bot l.start.rows l.log o (caused_first l.start.rows l.log more c) e.entry (among_of l.log e.entry e.among) h.b t n chunk last e.is in
          let same : f.0 ≡ l.name = same_Some _ _ (sym (number_longer h.b f.0 f.1) ∙ h.number) in
          inl (record { b = h.b; number = f.1 ∙ ap (λ (x : List ℕ). Some x) same; entry = e }))
