-- The lines of a base in their order: how they are written, and how they are read.
use Rattle.std.specs.Prelude.{◌≡◌, ℕ, ◌+◌, ◌*◌, ◌^◌, ◌<◌, ◌≤◌, ◌==◌, ◌&&◌, nat_lt, Bool, List, [], ◌∷◌, ◌++◌, map, length, Option, Some, None, is_some, is_none, unwrap_or, Result, Ok, Err, if◌then◌else◌, ⊤}
use Rattle.std.specs.List.{All}
use Rattle.std.specs.Option.{option_map_or}
use Rattle.base_lines.specs.Types.{Text, BlobRow, TaskRow, BotRow, PoolSettings, PoolState}
use Rattle.swarm_model.specs.Numbers.{AreNumbered}
use Rattle.swarm_model.specs.Effects.{no_of_bot, idle_bot}
use Rattle.swarm_model.specs.Soundness.{IsSound}
use Rattle.line_parts.specs.Finding.{◌>>=◌}
use Rattle.base_lines.specs.declared.base_row.PoolLine.{PoolLine}
use Rattle.base_lines.specs.declared.base_row.BaseRow.{BaseRow}
use Rattle.base_lines.specs.declared.base_row.BaseRow.TheVariants as row
use Rattle.base_lines.specs.declared.base_rows.BaseRows.{BaseRows}
use Rattle.base_lines.specs.Computed.{with_run}
use Rattle.base_lines.specs.Lines.{row_line, row_of_line, ReadsBack}

-- ---- written

abbrev pub pool_of : PoolState → PoolLine
pool_of s = record { last = s.last; placed = s.placed }

abbrev pub task_line : TaskRow → List ℕ
task_line task = row_line (row.Task task)

abbrev pub bot_line : BotRow → List ℕ
bot_line bot = row_line (row.Bot bot)

abbrev pub blob_line : BlobRow → List ℕ
blob_line blob = row_line (row.Blob blob)

-- the pool's line, then those of tasks, of bots and of blobs
abbrev pub base_lines : PoolState → List Text
base_lines s = row_line (row.Pool (pool_of s)) ∷ (map task_line s.tasks ++ (map bot_line s.bots ++ map blob_line s.blobs))

-- the lines go on by those of the rows, of which the rows are read
pub record AddsLines {R : Type 0} (told : R → BaseRow) (rows : List R) (old new : List Text) : Type 0 where
  pub lines : new ≡ old ++ map (λ x. row_line (told x)) rows
  pub read_back : All (λ x. ReadsBack (told x)) rows

-- ---- read

abbrev pub nothing_read : BaseRows
nothing_read = record { pool = None; tasks = []; bots = []; blobs = []; newest = 0 }

abbrev pub is_nil : {X : Type 0} → List X → Bool
is_nil xs = length xs == 0

-- the row's line may stand behind those of these rows: that of the pool first, then tasks and bots by
-- their numbers from 1, then blobs with rising numbers
abbrev pub comes_next : BaseRows → BaseRow → Bool
comes_next rows (row.Pool pool) = is_none rows.pool
comes_next rows (row.Task task) = is_some rows.pool && ((task.no == length rows.tasks + 1) && (is_nil rows.bots && is_nil rows.blobs))
comes_next rows (row.Bot bot) = is_some rows.pool && ((bot.no == length rows.bots + 1) && is_nil rows.blobs)
comes_next rows (row.Blob blob) = is_some rows.pool && nat_lt rows.newest blob.no

abbrev pub with_row : BaseRows → BaseRow → BaseRows
with_row rows (row.Pool pool) = record rows { pool = Some pool }
with_row rows (row.Task task) = record rows { tasks = rows.tasks ++ task ∷ [] }
with_row rows (row.Bot bot) = record rows { bots = rows.bots ++ idle_bot bot ∷ [] }
with_row rows (row.Blob blob) = record rows { blobs = rows.blobs ++ blob ∷ []; newest = blob.no }

abbrev pub take_row : BaseRows → BaseRow → Option BaseRows
take_row rows x = if comes_next rows x then Some (with_row rows x) else None

-- the rows with that of the next line, where it is the line of a row that comes next
abbrev pub with_line : BaseRows → List ℕ → Option BaseRows
with_line rows text = row_of_line text >>= take_row rows

-- all rows, or the place of the first line that is none of its place
abbrev pub read_from : ℕ → BaseRows → List Text → Result BaseRows ℕ
read_from place rows [] = Ok rows
read_from place rows (text ∷ texts) = option_map_or (λ more. read_from (place + 1) more texts) (with_line rows text) (Err place)

abbrev pub read_lines : List Text → Result BaseRows ℕ
read_lines texts = read_from 0 nothing_read texts

-- the pool's line, where it was read
abbrev pub pool_lines : Option PoolLine → ℕ
pool_lines None = 0
pool_lines (Some pool) = 1

-- how many lines told the rows
abbrev pub lines_in : BaseRows → ℕ
lines_in rows = pool_lines rows.pool + (length rows.tasks + (length rows.bots + length rows.blobs))

-- What holds of rows that were read: bots have the numbers of their places, and no task as yet. A line has a number
-- below 2^32, and there are no more blobs than the newest has as its number.
pub record AreRead (rows : BaseRows) : Type 0 where
  pub numbered : AreNumbered no_of_bot 1 rows.bots
  pub idle : All (λ bot. bot.task ≡ None) rows.bots
  pub few_tasks : length rows.tasks < 2 ^ 32
  pub few_bots : length rows.bots < 2 ^ 32
  pub few_blobs : length rows.blobs ≤ rows.newest
  pub newest : rows.newest < 2 ^ 32

-- so many lines tell rows at most
abbrev pub most_lines : ℕ
most_lines = 3 * 2 ^ 32

abbrev pub no_pool : PoolLine
no_pool = record { last = 0; placed = 0 }

-- the rows as a pool's, each bot with the task that runs on it
abbrev pub base_of : PoolSettings → BaseRows → PoolState
base_of settings rows =
    record {
      settings = settings;
      last = (unwrap_or rows.pool no_pool).last;
      tasks = rows.tasks;
      bots = map (with_run rows.tasks) rows.bots;
      blobs = rows.blobs;
      placed = (unwrap_or rows.pool no_pool).placed;
    }

-- ---- what is written is read back

-- numbers that rise from above this one
abbrev pub RiseFrom : ℕ → List BlobRow → Type 0
RiseFrom low [] = ⊤
RiseFrom low (blob ∷ blobs) = (low < blob.no) × RiseFrom blob.no blobs

abbrev pub newest_of : ℕ → List BlobRow → ℕ
newest_of low [] = low
newest_of low (blob ∷ blobs) = newest_of blob.no blobs

-- the rows of a pool, as its lines tell them
abbrev pub rows_of : PoolState → BaseRows
rows_of s = record { pool = Some (pool_of s); tasks = s.tasks; bots = map idle_bot s.bots; blobs = s.blobs; newest = newest_of 0 s.blobs }

-- of the lines the rows are read, and the rows are the pool
abbrev pub TellThePool : PoolState → List Text → Type 0
TellThePool s lines = IsSound s → RiseFrom 0 s.blobs → (read_lines lines ≡ Ok (rows_of s)) × (base_of s.settings (rows_of s) ≡ s)
