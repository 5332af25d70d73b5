-- No two bots have one name.
use Rattle.std.proofs.Common.{◌≡◌, ℕ, List, [], ◌∷◌, ◌⊎◌, inl, inr, refl, sym, ◌∙◌, Option, Some, None}
use Rattle.std.specs.List.{All}
use Rattle.std.specs.Option.{option_map_or}
use Rattle.pool_laws.specs.Types.{BotRow, PoolState, Entry, EntryKind, EventKind}
use Rattle.swarm_model.specs.declared.entry.EntryKind.TheVariants as kind
use Rattle.swarm_model.specs.declared.entry.EventKind.TheVariants as event
use Rattle.swarm_model.specs.Finding.{bot_of, bot_named, is_called}
use Rattle.swarm_model.specs.Effects.{bot_after, added_bots, session_row, event_effect, after}
use Rattle.swarm_model.specs.History.{MayFollow}
use Rattle.swarm_model.specs.Soundness.{IsSound, AreNamedApart}
use Rattle.pool_laws.proofs.Lists.{Among, each, each_one, find_none}
use Rattle.pool_laws.proofs.Preconditions.{Finds, IsOld, IsNewcomer}
use Rattle.pool_laws.proofs.EntryPreconditions.{IsFitting, finds, fitting}
use Rattle.pool_laws.proofs.Rows.{bot_by, all_bots, find_bot}
use Rattle.pool_laws.proofs.Numbers.{bot_no}
use Rattle.pool_laws.proofs.Alike.{is_same}

-- no event changes the name of a bot
event_name : (m : ℕ) (e : EventKind) (text : List ℕ) (x : BotRow) → (event_effect m e text x).name ≡ x.name
event_name m event.Ping text x = refl
event_name m event.Quarantine text x = refl
event_name m event.Unquarantine text x = refl

-- nor does any entry
pub name_same : (s : PoolState) (m : ℕ) (k : EntryKind) → IsSound s → Finds s k → IsFitting s k → (x : BotRow) → Among x s.bots → (bot_after m k x).name ≡ x.name
name_same s m k o f g x a =
    bot_by (λ (y : BotRow). y.name ≡ x.name) s m o x a (record {
      same = refl;
      hushes = refl;
      dies = refl;
      greets = λ b id session dims q is named may. sym named;
      polls = λ dims q hint may. refl;
      busies = λ b t id found. refl;
      hears = refl;
      notes = λ e text may. event_name m e text x;
      rests = refl;
      stops = refl;
    }) k f g

-- a name under which no bot is found is that of none
unnamed_new : (s : PoolState) (id : List ℕ) → bot_named s id ≡ None → (x : BotRow) → Among x s.bots → x.name ≡ id → ⊥
unnamed_new s id none x a e = cc (find_none (is_called id) s.bots none x a, is_same x.name id e)

-- so the name of a row that is added is new
added_new : (s : PoolState) (m : ℕ) (k : EntryKind) → IsSound s → Finds s k → (x : BotRow) → Among x s.bots → (y : BotRow) → Among y (added_bots s m k) → x.name ≡ y.name → ⊥
added_new s m (kind.Handshake b id session dims q) o f x a y c e = by_old f (bot_of s b) refl c
  where
    by_old : IsNewcomer s b id ⊎ IsOld s b id → (r : Option BotRow) → bot_of s b ≡ r → Among y (option_map_or (λ old. []) r (session_row m b id session dims q ∷ [])) → ⊥
    by_old h (Some old) g d = elim d [ ]
    by_old (inr old) None g d = absurd (cc (find_bot s o old.bot b old.among old.named, g))
    by_old (inl new) None g d =
        each_one (λ (z : BotRow). x.name ≡ z.name → ⊥) (session_row m b id session dims q) (λ same_name. unnamed_new s id new.unknown x a same_name) y d e
added_new s m k o f x a y c e = elim c [ ]

-- an entry adds one row at most
added_one : (s : PoolState) (m : ℕ) (k : EntryKind) (x : BotRow) → Among x (added_bots s m k) → (y : BotRow) → Among y (added_bots s m k) → x.no ≡ y.no
added_one s m (kind.Handshake b id session dims q) x a y c = by_old (bot_of s b) a c
  where
    by_old : (r : Option BotRow) → Among x (option_map_or (λ old. []) r (session_row m b id session dims q ∷ [])) → Among y (option_map_or (λ old. []) r (session_row m b id session dims q ∷ [])) → x.no ≡ y.no
    by_old (Some old) d g = elim d [ ]
    by_old None d g =
        each_one (λ (z : BotRow). z.no ≡ y.no) (session_row m b id session dims q)
        (each_one (λ (z : BotRow). b ≡ z.no) (session_row m b id session dims q) refl y g) x d
added_one s m k x a y c = elim a [ ]

module _ (s : PoolState) (o : IsSound s) where
  -- rows of a sound pool are apart
  pub named_apart : (x : BotRow) → Among x s.bots → (y : BotRow) → Among y s.bots → AreNamedApart x y
  named_apart x a y c = each (AreNamedApart x) s.bots (each (λ (z : BotRow). All (AreNamedApart z) s.bots) s.bots o.names x a) y c

  -- they stay so
  row_apart : (m : ℕ) (k : EntryKind) → Finds s k → IsFitting s k → (x : BotRow) → Among x s.bots → (y : BotRow) → Among y s.bots → AreNamedApart (bot_after m k x) (bot_after m k y)
  row_apart m k f g x a y c e =
      bot_no s m k o f g x a ∙ named_apart x a y c (sym (name_same s m k o f g x a) ∙ e ∙ name_same s m k o f g y c) ∙ sym (bot_no s m k o f g y c)

  -- and apart from one that is added
  new_apart : (m : ℕ) (k : EntryKind) → Finds s k → IsFitting s k → (x : BotRow) → Among x s.bots → (y : BotRow) → Among y (added_bots s m k) → (bot_after m k x).name ≡ y.name → ⊥
  new_apart m k f g x a y c e = added_new s m k o f x a y c (sym (name_same s m k o f g x a) ∙ e)

-- names stay apart
pub names_apart : (s : PoolState) (e : Entry) → IsSound s → MayFollow s e → All (λ bot. All (AreNamedApart bot) (after s e).bots) (after s e).bots
names_apart s e o follows =
    let f = finds s e follows in
    let g = fitting s e follows in
    all_bots (λ (x : BotRow). All (AreNamedApart x) (after s e).bots) s e.moment e.kind
    (λ x a. all_bots (AreNamedApart (bot_after e.moment e.kind x)) s e.moment e.kind (row_apart s o e.moment e.kind f g x a) (λ y c n. absurd (new_apart s o e.moment e.kind f g x a y c n)))
    (λ x a. all_bots (AreNamedApart x) s e.moment e.kind (λ y c n. absurd (new_apart s o e.moment e.kind f g y c x a (sym n))) (λ y c n. added_one s e.moment e.kind x a y c))
