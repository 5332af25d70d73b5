-- How bots get the tasks that run on them, task by task.
use Rattle.std.specs.Prelude.{ℕ, List, map, Option, Some, None, is_none, if◌then◌else◌}
use Rattle.swarm_model.specs.declared.bot_row.BotRow.{BotRow}
use Rattle.swarm_model.specs.Effects.{bot_at}

-- where the bot has none
abbrev pub given_task : ℕ → BotRow → BotRow
given_task task bot = if is_none bot.task then record bot { task = Some task } else bot

-- the bot of this number, if there is one, gets the task
abbrev pub note_run : Option ℕ → ℕ → List BotRow → List BotRow
note_run None task bots = bots
note_run (Some bot) task bots = map (bot_at bot (given_task task)) bots
