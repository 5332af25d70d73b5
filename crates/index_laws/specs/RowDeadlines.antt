-- The deadlines of a pool's rows: those of tasks and bots at the places of their numbers, those of blobs in any order.
use Rattle.std.specs.Prelude.{◌≡◌, ◌<◌, ℕ, List, Option, Some, None, length, slice_set, if◌then◌else◌}
use Rattle.std.specs.Option.{option_and_then}
use Rattle.index_laws.specs.Types.{Pending, TaskRow, Deadline, PoolState, Entry}
use Rattle.swarm_model.specs.Finding.{has_state, task_of, bot_of}
use Rattle.swarm_model.specs.Deadlines.{slice_end, silence_end, bot_end, next_deadline}
use Rattle.swarm_model.specs.Effects.{after}
use Rattle.swarm_model.specs.History.{MayFollow}
use Rattle.swarm_model.specs.Soundness.{IsSound}
use Rattle.pool_index.specs.Deadlines.{deadline_at, earlier_of, IsFirstOf}
use Rattle.pool_index.specs.QueuedDeadlines.{IsEarliestOf}
use Rattle.index_laws.specs.Touched.{touched_task, touched_bot}
use Rattle.index_laws.specs.BlobDeadlines.{AreBlobDeadlines}

-- the deadline of a task: that of its slice while it waits, that of its bot's silence while it runs
abbrev pub task_deadline : PoolState → TaskRow → Option Deadline
task_deadline s task = if has_state Pending task then slice_end task else silence_end s task

-- the deadline of the task of a number
abbrev pub task_deadline_of : PoolState → ℕ → Option Deadline
task_deadline_of s number = option_and_then (task_deadline s) (task_of s number)

-- the deadline of the bot of a number
abbrev pub bot_deadline_of : PoolState → ℕ → Option Deadline
bot_deadline_of s number = option_and_then (bot_end s) (bot_of s number)

-- at each place stands the deadline of the task of that number
abbrev pub AreTaskDeadlines : List (Option Deadline) → PoolState → Type 0
AreTaskDeadlines ends s = (number : ℕ) → deadline_at ends number ≡ task_deadline_of s number

-- at each place stands the deadline of the bot of that number
abbrev pub AreBotDeadlines : List (Option Deadline) → PoolState → Type 0
AreBotDeadlines ends s = (number : ℕ) → deadline_at ends number ≡ bot_deadline_of s number

-- the deadlines where the one of a touched number is set anew
abbrev pub put_deadline : (ℕ → Option Deadline) → Option ℕ → List (Option Deadline) → List (Option Deadline)
put_deadline deadline_of None ends = ends
put_deadline deadline_of (Some number) ends = slice_set ends number (deadline_of number)

-- after an entry only the deadline of the touched task has to be set anew
abbrev pub TaskDeadlinesFollow : Type 0
TaskDeadlinesFollow =
    (s : PoolState) (e : Entry) → IsSound s → MayFollow s e → (ends : List (Option Deadline)) → AreTaskDeadlines ends s → length (after s e).tasks < length ends →
    AreTaskDeadlines (put_deadline (task_deadline_of (after s e)) (touched_task s e.kind) ends) (after s e)

-- and only that of the touched bot
abbrev pub BotDeadlinesFollow : Type 0
BotDeadlinesFollow =
    (s : PoolState) (e : Entry) → IsSound s → MayFollow s e → (ends : List (Option Deadline)) → AreBotDeadlines ends s → length (after s e).bots < length ends →
    AreBotDeadlines (put_deadline (bot_deadline_of (after s e)) (touched_bot s e.kind) ends) (after s e)

-- the earliest of the first deadlines of tasks, of bots and of blobs is the earliest of the pool
abbrev pub DeadlineIsNext : Type 0
DeadlineIsNext =
    (s : PoolState) → IsSound s → (tasks bots : List (Option Deadline)) → AreTaskDeadlines tasks s → AreBotDeadlines bots s → (blobs : List Deadline) → AreBlobDeadlines blobs s →
    (task bot blob : Option Deadline) → IsFirstOf tasks task → IsFirstOf bots bot → IsEarliestOf blobs blob → earlier_of (earlier_of task bot) blob ≡ next_deadline s
