-- Bots and the tasks that they run, which name each other.
use Rattle.std.specs.Prelude.{◌==◌, ℕ, Bool, true, false, List, Option, All}
use Rattle.std.specs.List.{find}
use Rattle.std.specs.Option.{option_map_or, option_and_then}
use Rattle.base_checks.specs.Types.{TaskRow, BotRow}
use Rattle.swarm_model.specs.Finding.{is_task, is_bot}
use Rattle.swarm_model.specs.Soundness.{runner, Agree}

-- a number is the one that is named
abbrev pub names : Option ℕ → ℕ → Bool
names named number = option_map_or (λ its. its == number) named false

abbrev pub numbered_task : List TaskRow → ℕ → Option TaskRow
numbered_task tasks number = find (is_task number) tasks

abbrev pub numbered_bot : List BotRow → ℕ → Option BotRow
numbered_bot bots number = find (is_bot number) bots

-- the task that the bot names, where it is there, runs on the bot
abbrev pub bot_agrees : List TaskRow → BotRow → Bool
bot_agrees tasks bot = option_map_or (λ task. names (runner task) bot.no) (option_and_then (numbered_task tasks) bot.task) true

-- the bot that runs the task, where it is there, names the task
abbrev pub task_agrees : List BotRow → TaskRow → Bool
task_agrees bots task = option_map_or (λ bot. names bot.task task.no) (option_and_then (numbered_bot bots) (runner task)) true

abbrev pub NameEachOther : List BotRow → List TaskRow → Type 0
NameEachOther bots tasks = All (λ bot. All (Agree bot) tasks) bots
