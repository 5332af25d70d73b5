-- Which slice a task comes to, and which task a bot gets.
use Rattle.std.specs.Prelude.{ℕ, Bool, false, ◌==◌, ◌&&◌, ◌||◌, not, nat_lt, List, drop, Option, Some, None, slice_get, if◌then◌else◌}
use Rattle.std.specs.List.{list_any, filter, fold, position_from}
use Rattle.std.specs.Option.{option_map, option_map_or}
use Rattle.dimensions.specs.declared.dim_set.DimSet.{DimSet}
use Rattle.swarm_model.specs.Types.{BotDims, Slice, Pending, TaskRow, BotRow, PoolState}
use Rattle.dimensions.specs.Rules.{is_empty}
use Rattle.dimensions.specs.Matching.{matches}
use Rattle.swarm_model.specs.Finding.{has_state}

-- a bot that may take work, now or once it is done with what it runs
abbrev pub is_fit : BotRow → Bool
is_fit bot = not bot.dead && (is_empty bot.quarantined && not bot.terminating)

abbrev pub could_run : DimSet → BotRow → Bool
could_run dims bot = is_fit bot && matches bot.dims dims

-- some fit bot matches the dimensions, busy or not
abbrev pub capable : PoolState → DimSet → Bool
capable s dims = list_any (could_run dims) s.bots

-- a slice that may become a task's current one
abbrev pub is_open : PoolState → Slice → Bool
is_open s slice = slice.wait_for_capacity || capable s slice.properties.dimensions

-- the place of the first open slice, at this place or after it
abbrev pub admit : PoolState → List Slice → ℕ → Option ℕ
admit s slices place = position_from (is_open s) place (drop place slices)

-- the slice that a task has come to
abbrev pub current_slice : TaskRow → Option Slice
current_slice task = slice_get task.request.task_slices task.slice

abbrev pub takes_slice : BotDims → Option Slice → Bool
takes_slice dims None = false
takes_slice dims (Some slice) = matches dims slice.properties.dimensions

-- the bot whose run of the task was lost: another bot is to run it
abbrev pub kept_from : TaskRow → Option ℕ
kept_from task = option_map (λ lost. lost.attempt.bot) task.retried

-- that is the bot of this number
abbrev pub is_kept_from : ℕ → TaskRow → Bool
is_kept_from bot task = option_map_or (λ other. other == bot) (kept_from task) false

-- a pending task whose current slice a bot of these dimensions matches, and that is not kept from that bot
abbrev pub waits_for : ℕ → BotDims → TaskRow → Bool
waits_for bot dims task = has_state Pending task && (takes_slice dims (current_slice task) && not (is_kept_from bot task))

-- the task with the lower priority number, or at equal ones the lower number
abbrev pub goes_before : TaskRow → TaskRow → Bool
goes_before a b = nat_lt a.request.priority b.request.priority || (a.request.priority == b.request.priority && nat_lt a.no b.no)

-- the task that goes before the others so far, where one more is looked at
abbrev pub foremost : Option TaskRow → TaskRow → Option TaskRow
foremost None task = Some task
foremost (Some best) task = if goes_before task best then Some task else Some best

-- the task that the bot of a number gets, with these dimensions
abbrev pub first : PoolState → ℕ → BotDims → Option TaskRow
first s bot dims = fold foremost None (filter (waits_for bot dims) s.tasks)
