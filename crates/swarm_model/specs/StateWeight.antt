-- How much the rows of a pool weigh.
use Rattle.std.specs.Prelude.{ℕ, ◌+◌, length}
use Rattle.std.specs.List.{sum_by}
use Rattle.std.specs.Option.{option_map_or}
use Rattle.swarm_model.specs.Types.{Attempt, Retried, TaskRow, BotRow, PoolState}
use Rattle.swarm_model.specs.Entries.{task_weight, dims_weight, chunk_weight, last_weight}

-- the id of the claim, a digest for each chunk that is kept, and the files of the last report
abbrev pub attempt_weight : Attempt → ℕ
attempt_weight attempt = length attempt.claim + (sum_by chunk_weight attempt.chunks + option_map_or last_weight attempt.last 0)

abbrev pub retried_weight : Retried → ℕ
retried_weight lost = attempt_weight lost.attempt

-- what was asked for, by whom, and both runs
abbrev pub task_row_weight : TaskRow → ℕ
task_row_weight task =
    length task.creator
    + (task_weight task.request + (option_map_or attempt_weight task.attempt 0 + option_map_or retried_weight task.retried 0))

abbrev pub bot_row_weight : BotRow → ℕ
bot_row_weight bot = length bot.name + (length bot.session + (dims_weight bot.dims + length bot.quarantined))

-- the bytes of all texts in the rows of tasks and bots, and 36 for each digest of their requests, chunks and files
abbrev pub state_weight : PoolState → ℕ
state_weight s = sum_by task_row_weight s.tasks + sum_by bot_row_weight s.bots
