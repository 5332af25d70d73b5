-- An entry adds at most one row of a task and one of a bot.
use Rattle.std.proofs.Common.{ℕ, ◌≤◌, [], ◌∷◌, map, length, length-append, arith, Option, Some, None}
use Rattle.std.specs.Option.{option_map_or}
use Rattle.std.proofs.lemmas.List.{length-map}
use Rattle.index_laws.specs.Types.{BotRow, PoolState, EntryKind}
use Rattle.swarm_model.specs.declared.entry.EntryKind.TheVariants as kind
use Rattle.swarm_model.specs.Finding.{bot_of}
use Rattle.swarm_model.specs.Effects.{session_row, task_after, added_tasks, bot_after, added_bots}
use Rattle.index_laws.specs.Touched.{RowsGrowByOne}

one_task : (m : ℕ) (k : EntryKind) → length (added_tasks m k) ≤ 1
one_task m (kind.New t who request state slice from) = omega arith
one_task m k = omega arith

one_bot : (s : PoolState) (m : ℕ) (k : EntryKind) → length (added_bots s m k) ≤ 1
one_bot s m (kind.Handshake b id session dims q) = by_old (bot_of s b)
  where
    by_old : (r : Option BotRow) → length (option_map_or (λ old. []) r (session_row m b id session dims q ∷ [])) ≤ 1
    by_old None = omega arith
    by_old (Some old) = omega arith
one_bot s m k = omega arith

pub rows_grow_by_one : RowsGrowByOne
rows_grow_by_one s e = (
  omega (arith, length-append (map (task_after s e.moment e.kind) s.tasks) (added_tasks e.moment e.kind), length-map s.tasks (task_after s e.moment e.kind), one_task e.moment e.kind),
  omega (arith, length-append (map (bot_after e.moment e.kind) s.bots) (added_bots s e.moment e.kind), length-map s.bots (bot_after e.moment e.kind), one_bot s e.moment e.kind),
)
