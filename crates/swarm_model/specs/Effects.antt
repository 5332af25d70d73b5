-- What each entry of the log does to the pool, row by row.
use Rattle.std.specs.Prelude.{ℕ, Bool, true, false, ◌+◌, ◌-◌, ◌==◌, ◌&&◌, ◌||◌, not, min, List, [], ◌∷◌, ◌++◌, map, length, Option, Some, None, is_some, unwrap_or, if◌then◌else◌}
use Rattle.std.specs.List.{filter}
use Rattle.std.specs.Option.{option_map, option_map_or, option_and_then}
use Rattle.swarm_model.specs.Types.{Text, BotDims, NewTask, TaskState, Pending, Running, TimedOut, BotDied, Canceled, Completed, Killed, Attempt, Chunk, Last, Retried, TaskRow, BotRow, PoolState, PoolSettings, Entry, EntryKind, EventKind, Outcome}
use Rattle.blob_rows.specs.BlobRows.{BlobRowsState, longer_kept, is_other}
use Rattle.blob_rows.specs.BlobRows as rows
use Rattle.swarm_model.specs.declared.entry.EntryKind.TheVariants as kind
use Rattle.swarm_model.specs.declared.entry.EventKind.TheVariants as event
use Rattle.swarm_model.specs.declared.entry.Outcome.TheVariants as outcome
use Rattle.swarm_model.specs.Finding.{is_state, task_of, bot_of}
use Rattle.swarm_model.specs.Slices.{current_slice}
use Rattle.swarm_model.specs.Numbers.{change_at}

-- a pool before its first entry
abbrev pub opening : PoolSettings → PoolState
opening settings = record { settings = settings; last = 0; tasks = []; bots = []; blobs = []; placed = 0 }

-- ---- tasks

abbrev pub no_of_task : TaskRow → ℕ
no_of_task task = task.no

-- the moment at which a task ends that is accepted in a state
abbrev pub end_at : TaskState → ℕ → Option ℕ
end_at state moment = if is_state state Pending then None else Some moment

-- the row of a task that is accepted
abbrev pub new_row : ℕ → ℕ → List ℕ → NewTask → TaskState → ℕ → Option ℕ → TaskRow
new_row moment t who request state slice from =
    record {
      no = t;
      creator = who;
      request = request;
      created = moment;
      state = state;
      slice = slice;
      since = moment;
      attempt = None;
      retried = None;
      source = from;
      ended = end_at state moment;
    }

-- the task comes to another slice, or ends at its last one
abbrev pub expired_slice : ℕ → Outcome → TaskRow → TaskRow
expired_slice moment (outcome.Slice place) task = record task { slice = place; since = moment }
expired_slice moment (outcome.Ended state) task =
    record task { state = state; slice = length task.request.task_slices - 1; ended = Some moment }

-- the state in which a run ends: killed, where it was asked to stop
abbrev pub end_state : Option Attempt → TaskState → TaskState
end_state None state = state
end_state (Some attempt) state = if attempt.kill then Killed else state

-- the current slice is idempotent
abbrev pub is_idempotent : TaskRow → Bool
is_idempotent task = option_map_or (λ slice. slice.properties.idempotent) (current_slice task) false

-- the first run of the task, which was not asked to stop
abbrev pub is_first_run : Option Attempt → Bool
is_first_run attempt = option_map_or (λ a. a.try_no == 1 && not a.kill) attempt false

-- a run that is lost is tried again, where the pool retries, it is the task's first, it was not
-- asked to stop, and its slice is idempotent
abbrev pub is_tried_again : ℕ → TaskRow → Bool
is_tried_again retries task = retries == 1 && (is_first_run task.attempt && is_idempotent task)

abbrev pub retried_from : ℕ → ℕ → Attempt → Retried
retried_from moment slice attempt = record { attempt = attempt; slice = slice; over = moment }

-- the task waits again, at the same slice, which begins anew
abbrev pub retried_run : ℕ → TaskRow → TaskRow
retried_run moment task =
    record task { state = Pending; since = moment; attempt = None; retried = option_map (retried_from moment task.slice) task.attempt }

-- the run ends for good
abbrev pub died_run : ℕ → TaskRow → TaskRow
died_run moment task = record task { state = end_state task.attempt BotDied; ended = Some moment }

-- the run ends without a last update
abbrev pub lost_run : ℕ → ℕ → TaskRow → TaskRow
lost_run retries moment task = if is_tried_again retries task then retried_run moment task else died_run moment task

abbrev pub canceled : ℕ → TaskRow → TaskRow
canceled moment task = record task { state = Canceled; ended = Some moment }

abbrev pub killed : Attempt → Attempt
killed attempt = record attempt { kill = true }

-- the run is asked to stop
abbrev pub kill_marked : TaskRow → TaskRow
kill_marked task = record task { attempt = option_map killed task.attempt }

-- the number of the next run of a task
abbrev pub next_try : TaskRow → ℕ
next_try task = if is_some task.retried then 2 else 1

-- a bot begins the task
abbrev pub started_run : ℕ → ℕ → List ℕ → TaskRow → TaskRow
started_run moment bot claim task =
    record task {
      state = Running;
      attempt = Some (record {
        try_no = next_try task;
        bot = bot;
        claim = claim;
        begun = moment;
        kill = false;
        chunks = [];
        length = 0;
        last = None;
        last_chunk = None;
      });
    }

-- the chunk of an update, where it goes on from the output that is kept
abbrev pub fresh_chunk : Option Attempt → Option Chunk → Option Chunk
fresh_chunk None chunk = None
fresh_chunk (Some attempt) None = None
fresh_chunk (Some attempt) (Some chunk) = if chunk.start == attempt.length then Some chunk else None

abbrev pub with_chunk : Chunk → Attempt → Attempt
with_chunk chunk attempt = record attempt { chunks = attempt.chunks ++ chunk ∷ []; length = attempt.length + chunk.size }

-- the output of the run goes on by a chunk
abbrev pub lengthened : Chunk → TaskRow → TaskRow
lengthened chunk task = record task { attempt = option_map (with_chunk chunk) task.attempt }

-- the state that a last update reports
abbrev pub reported : Last → TaskState
reported last = if last.hard_timeout || last.io_timeout then TimedOut else Completed

abbrev pub with_last_report : Option Chunk → Last → Attempt → Attempt
with_last_report chunk last attempt = record attempt { last = Some last; last_chunk = chunk }

-- the run ends with a last update
abbrev pub ended_run : ℕ → Option Chunk → Last → TaskRow → TaskRow
ended_run moment chunk last task =
    record task {
      state = end_state task.attempt (reported last);
      attempt = option_map (with_last_report chunk last) task.attempt;
      ended = Some moment;
    }

-- a change of the row that has the number, where there is a number or a value
abbrev pub if_some : {A R : Type 0} → (A → R → R) → Option A → R → R
if_some change None row = row
if_some change (Some value) row = change value row

abbrev pub task_at : ℕ → (TaskRow → TaskRow) → TaskRow → TaskRow
task_at number change task = change_at no_of_task number change task

-- the task that a bot runs is lost
abbrev pub lost_run_at : ℕ → ℕ → ℕ → TaskRow → TaskRow
lost_run_at retries moment number task = task_at number (lost_run retries moment) task

abbrev pub run_of_bot : PoolState → ℕ → Option ℕ
run_of_bot s number = option_and_then (λ bot. bot.task) (bot_of s number)

abbrev pub attempt_of : PoolState → ℕ → Option Attempt
attempt_of s number = option_and_then (λ task. task.attempt) (task_of s number)

abbrev pub chunk_at : ℕ → Chunk → TaskRow → TaskRow
chunk_at number chunk task = task_at number (lengthened chunk) task

abbrev pub ended_run_at : ℕ → ℕ → Option Chunk → Last → TaskRow → TaskRow
ended_run_at moment number chunk last task = task_at number (ended_run moment chunk last) task

-- the row of a task after an entry
abbrev pub task_after : PoolState → ℕ → EntryKind → TaskRow → TaskRow
task_after s moment (kind.Slice t to) task = task_at t (expired_slice moment to) task
task_after s moment (kind.Silence t) task = task_at t (lost_run s.settings.retries moment) task
task_after s moment (kind.Cancel t) task = task_at t (canceled moment) task
task_after s moment (kind.Kill t) task = task_at t kill_marked task
task_after s moment (kind.Handshake b id session dims q) task = if_some (lost_run_at s.settings.retries moment) (run_of_bot s b) task
task_after s moment (kind.Claim b t claim) task = task_at t (started_run moment b claim) task
task_after s moment (kind.Update b t try_no chunk last) task =
    if_some (ended_run_at moment t chunk) last (if_some (chunk_at t) (fresh_chunk (attempt_of s t) chunk) task)
task_after s moment entry task = task

-- the task rows that an entry adds
abbrev pub added_tasks : ℕ → EntryKind → List TaskRow
added_tasks moment (kind.New t who request state slice from) = new_row moment t who request state slice from ∷ []
added_tasks moment entry = []

-- ---- bots

abbrev pub no_of_bot : BotRow → ℕ
no_of_bot bot = bot.no

abbrev pub bot_at : ℕ → (BotRow → BotRow) → BotRow → BotRow
bot_at number change bot = change_at no_of_bot number change bot

-- the bot was heard; where it has a run, it is not dead
abbrev pub heard : ℕ → BotRow → BotRow
heard moment bot = record bot { contact = moment; dead = bot.dead && not (is_some bot.task) }

-- the number of naps in a row, after a poll
abbrev pub streak_after : Bool → BotRow → ℕ
streak_after true bot = 0
streak_after false bot = if bot.terminating then bot.streak else min 63 (bot.streak + 1)

-- the bot asked what to do
abbrev pub polled : ℕ → Option BotDims → Option Text → Bool → BotRow → BotRow
polled moment dims quarantined hint bot =
    record (heard moment bot) {
      dims = unwrap_or dims bot.dims;
      quarantined = unwrap_or quarantined bot.quarantined;
      streak = streak_after hint bot;
    }

abbrev pub with_event : EventKind → List ℕ → BotRow → BotRow
with_event event.Ping message bot = bot
with_event event.Quarantine message bot = record bot { quarantined = message }
with_event event.Unquarantine message bot = record bot { quarantined = [] }

-- the bot told of itself
abbrev pub event_effect : ℕ → EventKind → List ℕ → BotRow → BotRow
event_effect moment which message bot = with_event which message (heard moment bot)

-- the row of a bot that comes with a new session
abbrev pub session_row : ℕ → ℕ → List ℕ → List ℕ → BotDims → List ℕ → BotRow
session_row moment number name session dims quarantined =
    record {
      no = number;
      name = name;
      session = session;
      dims = dims;
      contact = moment;
      streak = 0;
      quarantined = quarantined;
      dead = false;
      terminating = false;
      task = None;
    }

-- the bot runs a task
abbrev pub assigned_bot : ℕ → ℕ → BotRow → BotRow
assigned_bot moment task bot = record (heard moment bot) { task = Some task }

-- the bot is done with its task
abbrev pub idle_bot : BotRow → BotRow
idle_bot bot = record bot { task = None }

-- the bot is silent, and its run is lost
abbrev pub silent_bot : BotRow → BotRow
silent_bot bot = record bot { dead = true; task = None }

abbrev pub dead_bot : BotRow → BotRow
dead_bot bot = record bot { dead = true }

abbrev pub terminated : BotRow → BotRow
terminated bot = record bot { terminating = true }

abbrev pub runs_task : ℕ → BotRow → Bool
runs_task number bot = option_map_or (λ task. task == number) bot.task false

abbrev pub idle_bot_at : ℕ → Last → BotRow → BotRow
idle_bot_at number last bot = bot_at number idle_bot bot

-- the row of a bot after an entry
abbrev pub bot_after : ℕ → EntryKind → BotRow → BotRow
bot_after moment (kind.Silence t) bot = if runs_task t bot then silent_bot bot else bot
bot_after moment (kind.Dead b) bot = bot_at b dead_bot bot
bot_after moment (kind.Handshake b id session dims q) bot = bot_at b (λ old. session_row moment b id session dims q) bot
bot_after moment (kind.Poll b dims q hint) bot = bot_at b (polled moment dims q hint) bot
bot_after moment (kind.Claim b t claim) bot = bot_at b (assigned_bot moment t) bot
bot_after moment (kind.Contact b) bot = bot_at b (heard moment) bot
bot_after moment (kind.Event b e text) bot = bot_at b (event_effect moment e text) bot
bot_after moment (kind.Update b t try_no chunk last) bot = if_some (idle_bot_at b) last (bot_at b (heard moment) bot)
bot_after moment (kind.Terminate b) bot = bot_at b terminated bot
bot_after moment entry bot = bot

-- the row of a bot that comes for the first time
abbrev pub added_bots : PoolState → ℕ → EntryKind → List BotRow
added_bots s moment (kind.Handshake b id session dims q) =
    option_map_or (λ old. []) (bot_of s b) (session_row moment b id session dims q ∷ [])
added_bots s moment entry = []

-- ---- blobs

abbrev pub life : PoolState → ℕ
life s = s.settings.blob_life_secs

-- the rows of the blobs, with what a new one needs to find its place
abbrev pub blobs_in : PoolState → BlobRowsState
blobs_in s = record { rows = s.blobs; placed = s.placed; units = s.settings.store_units }

abbrev pub with_rows : BlobRowsState → PoolState → PoolState
with_rows blobs s = record s { blobs = blobs.rows; placed = blobs.placed }

-- a blob is put: it is kept for a life from the moment on, and has a place where it was not present
abbrev pub put : PoolState → ℕ → Text → ℕ → PoolState
put s moment digest size = with_rows (rows.put (blobs_in s) (moment + life s) digest size) s

abbrev pub put_chunk : PoolState → ℕ → Option Chunk → PoolState
put_chunk s moment None = s
put_chunk s moment (Some chunk) = put s moment chunk.digest chunk.size

-- the pool with its blobs as an entry leaves them
abbrev pub with_blobs : PoolState → ℕ → EntryKind → PoolState
with_blobs s moment (kind.Blob n true) = record s { blobs = map (longer_kept (life s) n) s.blobs }
with_blobs s moment (kind.Blob n false) = record s { blobs = filter (is_other n) s.blobs }
with_blobs s moment (kind.Update b t try_no chunk last) = put_chunk s moment (fresh_chunk (attempt_of s t) chunk)
with_blobs s moment (kind.Put digest size) = put s moment digest size
with_blobs s moment entry = s

-- ---- the pool

-- the pool after an entry
abbrev pub after : PoolState → Entry → PoolState
after s entry =
    record (with_blobs s entry.moment entry.kind) {
      last = entry.moment;
      tasks = map (task_after s entry.moment entry.kind) s.tasks ++ added_tasks entry.moment entry.kind;
      bots = map (bot_after entry.moment entry.kind) s.bots ++ added_bots s entry.moment entry.kind;
    }
