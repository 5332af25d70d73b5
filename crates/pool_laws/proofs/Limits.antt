-- A pool has no more rows than its settings allow.
use Rattle.std.proofs.Common.{◌≡◌, ℕ, ◌+◌, ◌≤◌, List, [], ◌∷◌, ◌++◌, ◌⊎◌, inl, inr, map, length, length-append, refl, sym, subst, Option, Some, None, arith}
use Rattle.std.specs.Option.{option_map_or}
use Rattle.std.proofs.lemmas.List.{length-map}
use Rattle.pool_laws.specs.Types.{BotRow, PoolSettings, PoolState, Entry, EntryKind}
use Rattle.swarm_model.specs.declared.entry.EntryKind.TheVariants as kind
use Rattle.swarm_model.specs.Finding.{bot_of}
use Rattle.swarm_model.specs.Effects.{task_after, added_tasks, bot_after, added_bots, session_row, after}
use Rattle.swarm_model.specs.History.{MayFollow}
use Rattle.swarm_model.specs.Soundness.{IsSound}
use Rattle.pool_laws.proofs.Preconditions.{Finds, IsOld, IsNewcomer}
use Rattle.pool_laws.proofs.EntryPreconditions.{finds}
use Rattle.pool_laws.proofs.Rows.{find_bot}
use Rattle.pool_laws.proofs.Bots.{settings_same}

-- rows that are changed are as many, and some are added
length-after : {X : Type 0} (f : X → X) (xs added : List X) → length (map f xs ++ added) ≡ length xs + length added
length-after f xs added = let both = length-append (map f xs) added in let same = length-map xs f in omega (arith, both, same)

-- there is room for the task that is added
added_few : (s : PoolState) (m : ℕ) (k : EntryKind) → IsSound s → Finds s k → length s.tasks + length (added_tasks m k) ≤ s.settings.most_tasks
added_few s m (kind.New t who request state slice from) o f = let room = f.room in omega (arith, room)
added_few s m k o f = let few = o.few_tasks in omega (arith, few)

-- and for the bot
joined_few : (s : PoolState) (m : ℕ) (k : EntryKind) → IsSound s → Finds s k → length s.bots + length (added_bots s m k) ≤ s.settings.most_bots
joined_few s m (kind.Handshake b id session dims q) o f = by_old f (bot_of s b) refl
  where
    by_old : IsNewcomer s b id ⊎ IsOld s b id → (r : Option BotRow) → bot_of s b ≡ r → length s.bots + length (option_map_or (λ old. []) r (session_row m b id session dims q ∷ [])) ≤ s.settings.most_bots
    by_old h (Some old) g = let few = o.few_bots in omega (arith, few)
    by_old (inl new) None g = let room = new.room in omega (arith, room)
    by_old (inr old) None g = absurd (cc (find_bot s o old.bot b old.among old.named, g))
joined_few s m k o f = let few = o.few_bots in omega (arith, few)

-- so tasks stay few
pub tasks_few : (s : PoolState) (e : Entry) → IsSound s → MayFollow s e → length (after s e).tasks ≤ (after s e).settings.most_tasks
tasks_few s e o follows =
    subst (λ (p : PoolSettings). length (after s e).tasks ≤ p.most_tasks) (sym (settings_same s e.moment e.kind))
    (let many = length-after (task_after s e.moment e.kind) s.tasks (added_tasks e.moment e.kind) in
    let few = added_few s e.moment e.kind o (finds s e follows) in omega (arith, many, few))

-- and so do bots
pub bots_few : (s : PoolState) (e : Entry) → IsSound s → MayFollow s e → length (after s e).bots ≤ (after s e).settings.most_bots
bots_few s e o follows =
    subst (λ (p : PoolSettings). length (after s e).bots ≤ p.most_bots) (sym (settings_same s e.moment e.kind))
    (let many = length-after (bot_after e.moment e.kind) s.bots (added_bots s e.moment e.kind) in
    let few = joined_few s e.moment e.kind o (finds s e follows) in omega (arith, many, few))
