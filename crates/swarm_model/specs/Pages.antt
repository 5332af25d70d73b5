-- Which rows a page shows, and where the next one goes on.
use Rattle.std.specs.Prelude.{ℕ, Bool, true, ◌-◌, ◌&&◌, nat_lt, List, length, reverse, slice_get, Option, Some, None, if◌then◌else◌}
use Rattle.std.specs.List.{filter}
use Rattle.std.specs.Option.{option_map}
use Rattle.dimensions.specs.Order.{is_text_below, sorted_by}
use Rattle.swarm_model.specs.Types.{TaskState, TaskRow, BotRow, PoolState}
use Rattle.swarm_model.specs.Finding.{is_wanted}

-- a task before the one of this number, where one is given
abbrev pub is_older : Option ℕ → TaskRow → Bool
is_older None task = true
is_older (Some below) task = nat_lt task.no below

abbrev pub is_listed : Option TaskState → Option ℕ → TaskRow → Bool
is_listed wanted below task = is_wanted wanted task && is_older below task

-- the tasks in the state with numbers below the one that is given, the newest first
abbrev pub listed_tasks : PoolState → Option TaskState → Option ℕ → List TaskRow
listed_tasks s wanted below = reverse (filter (is_listed wanted below) s.tasks)

-- by their names, in the order of their bytes
abbrev pub is_named_before : BotRow → BotRow → Bool
is_named_before a b = is_text_below a.name b.name

-- a bot whose name comes after this one; every name comes after the empty one
abbrev pub is_after : List ℕ → BotRow → Bool
is_after name bot = is_text_below name bot.name

-- the bots whose names come after this one, by their names
abbrev pub listed_bots : PoolState → List ℕ → List BotRow
listed_bots s after = filter (is_after after) (sorted_by is_named_before s.bots)

-- where more rows are left than a page shows: the last row that it shows, by its number or name
abbrev pub cursor_of : {R K : Type 0} → (R → K) → ℕ → List R → Option K
cursor_of key limit rows = if nat_lt limit (length rows) then option_map key (slice_get rows (limit - 1)) else None
