-- Rows keep their numbers, and added rows have the next ones.
use Rattle.std.proofs.Common.{◌≡◌, ℕ, ◌+◌, List, [], ◌∷◌, ◌⊎◌, inl, inr, length, refl, sym, Option, Some, None, arith, ap}
use Rattle.std.specs.Option.{option_map_or}
use Rattle.pool_laws.specs.Types.{TaskRow, BotRow, PoolState, Entry, EntryKind, EventKind}
use Rattle.swarm_model.specs.declared.entry.EntryKind.TheVariants as kind
use Rattle.swarm_model.specs.declared.entry.EventKind.TheVariants as event
use Rattle.swarm_model.specs.Finding.{bot_of}
use Rattle.swarm_model.specs.Numbers.{AreNumbered}
use Rattle.swarm_model.specs.Effects.{no_of_task, no_of_bot, task_after, added_tasks, bot_after, added_bots, session_row, event_effect, after}
use Rattle.swarm_model.specs.History.{MayFollow}
use Rattle.swarm_model.specs.Soundness.{IsSound}
use Rattle.pool_laws.proofs.Lists.{Among, numbered_after}
use Rattle.pool_laws.proofs.Preconditions.{Finds, IsOld, IsNewcomer}
use Rattle.pool_laws.proofs.EntryPreconditions.{IsFitting, finds, fitting}
use Rattle.pool_laws.proofs.Rows.{bot_by, find_bot}
use Rattle.pool_laws.proofs.Origins.{Origin, origin_same}

-- no entry changes the number of a task
pub task_no : (s : PoolState) (m : ℕ) (k : EntryKind) → IsSound s → Finds s k → (x : TaskRow) → Among x s.tasks → (task_after s m k x).no ≡ x.no
task_no s m k o f x a = ap (λ (z : Origin). z.no) (origin_same s m k o f x a)

-- no entry changes the number of a bot
event_effect_no : (m : ℕ) (e : EventKind) (text : List ℕ) (x : BotRow) → (event_effect m e text x).no ≡ x.no
event_effect_no m event.Ping text x = refl
event_effect_no m event.Quarantine text x = refl
event_effect_no m event.Unquarantine text x = refl

-- nor that of a bot
pub bot_no : (s : PoolState) (m : ℕ) (k : EntryKind) → IsSound s → Finds s k → IsFitting s k → (x : BotRow) → Among x s.bots → (bot_after m k x).no ≡ x.no
bot_no s m k o f g x a =
    bot_by (λ (y : BotRow). y.no ≡ x.no) s m o x a (record {
      same = refl;
      hushes = refl;
      dies = refl;
      greets = λ b id session dims q is named may. sym is;
      polls = λ dims q hint may. refl;
      busies = λ b t id found. refl;
      hears = refl;
      notes = λ e text may. event_effect_no m e text x;
      rests = refl;
      stops = refl;
    }) k f g

-- added rows have the next numbers

-- a task has the next number
next_task : (s : PoolState) (m : ℕ) (k : EntryKind) → Finds s k → AreNumbered no_of_task (1 + length s.tasks) (added_tasks m k)
next_task s m (kind.New t who request state slice from) f = (let next = f.next in omega (arith, next), tt)
next_task s m k f = tt

-- and so has a bot
next_bot : (s : PoolState) (m : ℕ) (k : EntryKind) → IsSound s → Finds s k → AreNumbered no_of_bot (1 + length s.bots) (added_bots s m k)
next_bot s m (kind.Handshake b id session dims q) o f = by_old f (bot_of s b) refl
  where
    by_old : IsNewcomer s b id ⊎ IsOld s b id → (r : Option BotRow) → bot_of s b ≡ r → AreNumbered no_of_bot (1 + length s.bots) (option_map_or (λ old. []) r (session_row m b id session dims q ∷ []))
    by_old h (Some old) g = tt
    by_old (inl new) None g = (let next = new.next in omega (arith, next), tt)
    by_old (inr old) None g = absurd (cc (find_bot s o old.bot b old.among old.named, g))
next_bot s m k o f = tt

-- so all rows are numbered by their places
pub tasks_numbered : (s : PoolState) (e : Entry) → IsSound s → MayFollow s e → AreNumbered no_of_task 1 (after s e).tasks
tasks_numbered s e o follows =
    let f = finds s e follows in
    numbered_after no_of_task (task_after s e.moment e.kind) 1 s.tasks (added_tasks e.moment e.kind) (task_no s e.moment e.kind o f) o.tasks_numbered (next_task s e.moment e.kind f)

-- and so are bots
pub bots_numbered : (s : PoolState) (e : Entry) → IsSound s → MayFollow s e → AreNumbered no_of_bot 1 (after s e).bots
bots_numbered s e o follows =
    let f = finds s e follows in
    numbered_after no_of_bot (bot_after e.moment e.kind) 1 s.bots (added_bots s e.moment e.kind) (bot_no s e.moment e.kind o f (fitting s e follows)) o.bots_numbered (next_bot s e.moment e.kind o f)
