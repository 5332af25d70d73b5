-- What an entry moves into the rows.
use Rattle.swarm_model.specs.declared.entry.EntryKind.{EntryKind}
use Rattle.swarm_model.specs.declared.entry.EntryKind.TheVariants as kind
use Rattle.row_changes.specs.declared.parts.BotParts.{BotParts}
use Rattle.row_changes.specs.declared.parts.BotParts.TheVariants as parts
use Rattle.row_changes.specs.declared.parts.TaskParts.{TaskParts}
use Rattle.row_changes.specs.declared.parts.TaskParts.TheVariants as task

-- what an entry moves into the row of a bot
abbrev pub bot_parts : EntryKind → BotParts
bot_parts (kind.Handshake b id session dims q) = parts.Session id session dims q
bot_parts (kind.Poll b dims q hint) = parts.Changes dims q
bot_parts (kind.Event b e text) = parts.Message text
bot_parts entry = parts.Nothing

-- what an entry moves into the row of a task
abbrev pub task_parts : EntryKind → TaskParts
task_parts (kind.New t who request state slice from) = task.New who request
task_parts (kind.Claim b t claim) = task.Claim claim
task_parts (kind.Update b t try_no chunk last) = task.Report t chunk last
task_parts (kind.Silence t) = task.Lost tt
task_parts (kind.Handshake b id session dims q) = task.Lost tt
task_parts entry = task.Nothing
