-- What an entry needs of the rows of tasks. What it needs of those of bots is `Follows` of `bot_registry`.
use Rattle.std.specs.Prelude.{◌≡◌, ◌+◌, ⊤, List, length, IfSome}
use Rattle.swarm_model.specs.declared.task_row.TaskRow.{TaskRow}
use Rattle.swarm_model.specs.declared.entry.EntryKind.{EntryKind}
use Rattle.swarm_model.specs.declared.entry.EntryKind.TheVariants as kind
use Rattle.row_changes.specs.Output.{run_of, StaysShort}
use Rattle.row_changes.specs.Rows.{HasFewSlices}
use Rattle.task_rows.specs.Acting.{row_of}

-- a new task has the next number, the task whose slice ends names few, and a chunk that is kept fits behind the output;
-- any other entry needs nothing
abbrev pub SuitsTasks : List TaskRow → EntryKind → Type 0
SuitsTasks rows (kind.New t who request state slice from) = t ≡ length rows + 1
SuitsTasks rows (kind.Slice t to) = IfSome (row_of rows t) HasFewSlices
SuitsTasks rows (kind.Update b t try_no chunk last) = StaysShort (run_of rows t) chunk
SuitsTasks rows entry = ⊤
