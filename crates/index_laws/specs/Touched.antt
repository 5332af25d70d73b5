-- Which task and which bot an entry may change.
use Rattle.std.specs.Prelude.{ℕ, ◌+◌, ◌≤◌, List, length, Option, Some, None}
use Rattle.std.specs.List.{find}
use Rattle.std.specs.Option.{option_map, option_and_then}
use Rattle.index_laws.specs.Types.{Attempt, TaskRow, BotRow, PoolState, Entry, EntryKind}
use Rattle.swarm_model.specs.declared.entry.EntryKind.TheVariants as kind
use Rattle.swarm_model.specs.Finding.{is_task, is_bot}
use Rattle.swarm_model.specs.Effects.{after}

-- the task that a bot of these runs
abbrev pub run_in : List BotRow → ℕ → Option ℕ
run_in bots number = option_and_then (λ (bot : BotRow). bot.task) (find (is_bot number) bots)

-- the task whose row or whose deadline an entry may change
abbrev pub touched_in : List BotRow → EntryKind → Option ℕ
touched_in bots (kind.Slice t to) = Some t
touched_in bots (kind.Silence t) = Some t
touched_in bots (kind.New t who request state slice from) = Some t
touched_in bots (kind.Cancel t) = Some t
touched_in bots (kind.Kill t) = Some t
touched_in bots (kind.Handshake b id session dims q) = run_in bots b
touched_in bots (kind.Poll b dims q hint) = run_in bots b
touched_in bots (kind.Claim b t claim) = Some t
touched_in bots (kind.Contact b) = run_in bots b
touched_in bots (kind.Event b e text) = run_in bots b
touched_in bots (kind.Update b t try_no chunk last) = Some t
touched_in bots entry = None

-- the same task, by the pool before the entry
abbrev pub touched_task : PoolState → EntryKind → Option ℕ
touched_task s k = touched_in s.bots k

-- the bot of a task's attempt
abbrev pub attempt_bot_in : List TaskRow → ℕ → Option ℕ
attempt_bot_in tasks number =
    option_map (λ (attempt : Attempt). attempt.bot) (option_and_then (λ (task : TaskRow). task.attempt) (find (is_task number) tasks))

-- the bot whose row an entry may change
abbrev pub touched_bot_in : List TaskRow → EntryKind → Option ℕ
touched_bot_in tasks (kind.Silence t) = attempt_bot_in tasks t
touched_bot_in tasks (kind.Dead b) = Some b
touched_bot_in tasks (kind.Handshake b id session dims q) = Some b
touched_bot_in tasks (kind.Poll b dims q hint) = Some b
touched_bot_in tasks (kind.Claim b t claim) = Some b
touched_bot_in tasks (kind.Contact b) = Some b
touched_bot_in tasks (kind.Event b e text) = Some b
touched_bot_in tasks (kind.Update b t try_no chunk last) = Some b
touched_bot_in tasks (kind.Terminate b) = Some b
touched_bot_in tasks entry = None

-- the same bot, by the pool before the entry
abbrev pub touched_bot : PoolState → EntryKind → Option ℕ
touched_bot s k = touched_bot_in s.tasks k

-- an entry adds at most one row of a task and one of a bot
abbrev pub RowsGrowByOne : Type 0
RowsGrowByOne = (s : PoolState) (e : Entry) → (length (after s e).tasks ≤ length s.tasks + 1) × (length (after s e).bots ≤ length s.bots + 1)
