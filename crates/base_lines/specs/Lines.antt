-- The line of a row of a base, and the row of a line.
use Rattle.std.specs.Prelude.{◌≡◌, ℕ, List, Option, Some, None, option_map, codes, if◌then◌else◌, ⊤, IfSome}
use Rattle.serde_json.specs.Data.{Data}
use Rattle.serde_json.specs.Find.{as_str}
use Rattle.serde_json.specs.Read.{read}
use Rattle.serde_json.specs.Written.{compact_text}
use Rattle.dimensions.specs.Alike.{same}
use Rattle.swarm_model.specs.declared.task_row.TaskRow.{TaskRow}
use Rattle.swarm_model.specs.Effects.{idle_bot}
use Rattle.line_parts.specs.Finding.{◌>>=◌, field}
use Rattle.base_lines.specs.declared.base_row.BaseRow.{BaseRow}
use Rattle.base_lines.specs.declared.base_row.BaseRow.TheVariants as row
use Rattle.base_lines.specs.Attempts.{IsMeasured}
use Rattle.base_lines.specs.Rows.{pool_data, pool_in, HoldsPool, task_data, task_in, HoldsTask, bot_data, bot_in, HoldsBot, blob_data, blob_in, HoldsBlob, HasUnits}

-- an object, its keys in order of bytes
abbrev pub row_data : BaseRow → Data
row_data (row.Pool pool) = pool_data pool
row_data (row.Task task) = task_data task
row_data (row.Bot bot) = bot_data bot
row_data (row.Blob blob) = blob_data blob

-- what holds of each row that the types can have
abbrev pub HoldsRow : BaseRow → Type 0
HoldsRow (row.Pool pool) = HoldsPool pool
HoldsRow (row.Task task) = HoldsTask task
HoldsRow (row.Bot bot) = HoldsBot bot
HoldsRow (row.Blob blob) = HoldsBlob blob

-- by the name of its kind
unfoldable pub row_of_kind : List ℕ → Data → Option BaseRow
row_of_kind name d =
    if same name (codes "pool") then option_map row.Pool (pool_in d)
    else if same name (codes "task") then option_map row.Task (task_in d)
    else if same name (codes "bot") then option_map row.Bot (bot_in d)
    else if same name (codes "blob") then option_map row.Blob (blob_in d)
    else None

unfoldable pub row_in : Data → Option BaseRow
row_in d = do
  name ← field as_str (codes "k") d
  row_of_kind name d

-- compact JSON with the keys in order of bytes
unfoldable pub row_line : BaseRow → List ℕ
row_line x = compact_text (row_data x)

-- the row, where the text is its line
abbrev pub if_line : List ℕ → BaseRow → Option BaseRow
if_line text x = if same (row_line x) text then Some x else None

-- the row that is read of a text, where the text is its line
unfoldable pub row_of_line : List ℕ → Option BaseRow
row_of_line text = read text >>= (λ d. row_in d >>= if_line text)

-- ---- what is written is read back

-- the row as its line tells it: a bot as yet without the task that it runs
abbrev pub as_told : BaseRow → BaseRow
as_told (row.Pool pool) = row.Pool pool
as_told (row.Task task) = row.Task task
as_told (row.Bot bot) = row.Bot (idle_bot bot)
as_told (row.Blob blob) = row.Blob blob

-- the runs of the task have the lengths that are computed
abbrev pub HasMeasuredRuns : TaskRow → Type 0
HasMeasuredRuns task = IfSome task.attempt IsMeasured × IfSome task.retried (λ lost. IsMeasured lost.attempt)

-- what the line leaves out is what is computed
abbrev pub IsComputed : BaseRow → Type 0
IsComputed (row.Pool pool) = ⊤
IsComputed (row.Task task) = HasMeasuredRuns task
IsComputed (row.Bot bot) = ⊤
IsComputed (row.Blob blob) = HasUnits blob

-- of the row's line the row is read
abbrev pub IsToldByItsLine : BaseRow → Type 0
IsToldByItsLine x = row_of_line (row_line x) ≡ Some (as_told x)

abbrev pub ReadsBack : BaseRow → Type 0
ReadsBack x = IsComputed x → IsToldByItsLine x

-- a text of which a row is read is the line of that row
abbrev pub LinesAreDistinct : Type 0
LinesAreDistinct = (text : List ℕ) (x : BaseRow) → row_of_line text ≡ Some x → row_line x ≡ text
