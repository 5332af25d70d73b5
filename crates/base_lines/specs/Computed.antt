-- What the lines of a base leave out, since other rows and fields tell it.
use Rattle.std.specs.Prelude.{◌≡◌, ℕ, Bool, false, ◌==◌, List, Option}
use Rattle.std.specs.List.{find, sum_by}
use Rattle.std.specs.Option.{option_map, option_map_or}
use Rattle.base_lines.specs.Types.{Attempt, Chunk, TaskRow, BotRow}
use Rattle.swarm_model.specs.Soundness.{runner}

abbrev pub runs_on : ℕ → TaskRow → Bool
runs_on number task = option_map_or (λ bot. bot == number) (runner task) false

-- the number of the task that runs on the bot of a number
abbrev pub run_among : List TaskRow → ℕ → Option ℕ
run_among tasks number = option_map (λ task. task.no) (find (runs_on number) tasks)

-- the bot's row with the task that the rows of the tasks give it
abbrev pub with_run : List TaskRow → BotRow → BotRow
with_run tasks bot = record bot { task = run_among tasks bot.no }

abbrev pub size_of : List Chunk → ℕ
size_of chunks = sum_by (λ chunk. chunk.size) chunks

-- the output of a run is as long as its chunks together
abbrev pub HasLength : Attempt → Type 0
HasLength attempt = attempt.length ≡ size_of attempt.chunks
