-- The rows of a pool by their states, numbers and places.
use Rattle.std.specs.Prelude.{ℕ, Bool, true, false, not, ◌&&◌, ◌==◌, Option, Some, None, slice_get, List}
use Rattle.std.specs.List.{find}
use Rattle.std.specs.Option.{option_map_or}
use Rattle.dimensions.specs.Alike.{same}
use Rattle.swarm_model.specs.Types.{BlobRow, TaskState, Pending, Running, Expired, TimedOut, BotDied, Canceled, Completed, Killed, NoResource, TaskRow, BotRow, PoolState}
use Rattle.blob_rows.specs.BlobRows as rows

-- the place of a state in the order in which tallies show them
abbrev pub state_place : TaskState → ℕ
state_place Pending = 0
state_place Running = 1
state_place Expired = 2
state_place TimedOut = 3
state_place BotDied = 4
state_place Canceled = 5
state_place Completed = 6
state_place Killed = 7
state_place NoResource = 8

abbrev pub is_state : TaskState → TaskState → Bool
is_state a b = state_place a == state_place b

abbrev pub has_state : TaskState → TaskRow → Bool
has_state state task = is_state task.state state

-- in the state, or in any where none is named
abbrev pub is_wanted : Option TaskState → TaskRow → Bool
is_wanted None task = true
is_wanted (Some state) task = has_state state task

abbrev pub is_task : ℕ → TaskRow → Bool
is_task number task = task.no == number

-- every state but the first two
abbrev pub is_final : TaskState → Bool
is_final state = not (is_state state Pending) && not (is_state state Running)

abbrev pub is_bot : ℕ → BotRow → Bool
is_bot number bot = bot.no == number

abbrev pub task_of : PoolState → ℕ → Option TaskRow
task_of s number = find (is_task number) s.tasks

abbrev pub is_called : List ℕ → BotRow → Bool
is_called name bot = same bot.name name

abbrev pub bot_named : PoolState → List ℕ → Option BotRow
bot_named s name = find (is_called name) s.bots

abbrev pub bot_of : PoolState → ℕ → Option BotRow
bot_of s number = find (is_bot number) s.bots

abbrev pub blob_numbered : PoolState → ℕ → Option BlobRow
blob_numbered s number = rows.blob_numbered s.blobs number

abbrev pub blob_placed : PoolState → ℕ → Option BlobRow
blob_placed s place = slice_get s.blobs place

abbrev pub blob_of : PoolState → List ℕ → Option BlobRow
blob_of s digest = rows.blob_of s.blobs digest

-- whether a blob has this digest and size
abbrev pub has_blob : PoolState → List ℕ → ℕ → Bool
has_blob s digest size = option_map_or (λ blob. blob.size == size) (blob_of s digest) false
