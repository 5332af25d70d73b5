-- Deadlines that have not come before a moment, row by row.
use Rattle.std.specs.Prelude.{ℕ, Bool, true, ◌≤◌, nat_le, List, Option, All}
use Rattle.std.specs.Option.{option_map_or, option_and_then}
use Rattle.base_checks.specs.Types.{BlobRow, TaskRow, BotRow, PoolState, Deadline}
use Rattle.swarm_model.specs.Deadlines.{slice_end, blob_end, deadlines}
use Rattle.row_changes.specs.Bots.{silence_of, death_of}
use Rattle.base_checks.specs.Agreeing.{numbered_bot}

-- the deadline, where there is one, is not before the moment
abbrev pub is_ahead : ℕ → Option Deadline → Bool
is_ahead moment deadline = option_map_or (λ d. nat_le moment d.moment) deadline true

-- the bot of the task's run, where it is there
abbrev pub run_by : List BotRow → TaskRow → Option BotRow
run_by bots task = option_and_then (λ attempt. numbered_bot bots attempt.bot) task.attempt

abbrev pub slice_is_ahead : ℕ → TaskRow → Bool
slice_is_ahead moment task = is_ahead moment (slice_end task)

abbrev pub silence_is_ahead : ℕ → List BotRow → TaskRow → Bool
silence_is_ahead moment bots task = is_ahead moment (silence_of task (run_by bots task))

abbrev pub death_is_ahead : ℕ → ℕ → BotRow → Bool
death_is_ahead moment timeout bot = is_ahead moment (death_of timeout bot)

abbrev pub blob_is_ahead : ℕ → BlobRow → Bool
blob_is_ahead moment blob = nat_le moment (blob_end blob).moment

-- no deadline of the pool is before its last moment
abbrev pub AreAhead : PoolState → Type 0
AreAhead s = All (λ d. s.last ≤ d.moment) (deadlines s)
