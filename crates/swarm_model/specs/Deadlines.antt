-- What runs out, and when.
use Rattle.std.specs.Prelude.{ℕ, Bool, false, ◌+◌, ◌==◌, ◌&&◌, ◌||◌, nat_le, nat_lt, List, ◌++◌, map, length, Option, Some, None, if◌then◌else◌}
use Rattle.std.specs.List.{filter_map, fold}
use Rattle.std.specs.Option.{option_map, option_map_or, option_and_then}
use Rattle.swarm_model.specs.Types.{BlobRow, Slice, TaskState, Pending, Running, Expired, NoResource, TaskRow, BotRow, PoolState, Deadline, Entry, EntryKind, Outcome}
use Rattle.swarm_model.specs.declared.deadline.Cause.{Cause}
use Rattle.swarm_model.specs.declared.deadline.Cause.TheVariants as cause
use Rattle.swarm_model.specs.declared.entry.EntryKind.TheVariants as kind
use Rattle.swarm_model.specs.declared.entry.Outcome.TheVariants as outcome
use Rattle.swarm_model.specs.Finding.{has_state, task_of, bot_of, blob_numbered}
use Rattle.swarm_model.specs.Slices.{admit, current_slice}
use Rattle.swarm_model.specs.Uses.{is_used}

-- the place of a cause among those of one moment
abbrev pub rank : Cause → ℕ
rank cause.Slice = 1
rank cause.Silence = 2
rank cause.Bot = 3
rank cause.Blob = 4

-- the deadline of a slice to which a task came
abbrev pub slice_limit : TaskRow → Slice → Deadline
slice_limit task slice = record { moment = task.since + slice.expiration_secs; cause = cause.Slice; number = task.no }

-- a task waits for a bot until its slice runs out
abbrev pub slice_end : TaskRow → Option Deadline
slice_end task = if has_state Pending task then option_map (slice_limit task) (current_slice task) else None

-- the bot of a run
abbrev pub runner_of : PoolState → TaskRow → Option BotRow
runner_of s task = option_and_then (λ attempt. bot_of s attempt.bot) task.attempt

-- the deadline of a run whose bot keeps silent
abbrev pub silence_limit : TaskRow → BotRow → Deadline
silence_limit task bot = record { moment = bot.contact + task.request.bot_ping_tolerance_secs; cause = cause.Silence; number = task.no }

abbrev pub silence_end : PoolState → TaskRow → Option Deadline
silence_end s task = if has_state Running task then option_map (silence_limit task) (runner_of s task) else None

-- a bot that isn't heard counts as dead in the end
abbrev pub bot_end : PoolState → BotRow → Option Deadline
bot_end s bot =
    if bot.dead then None else Some (record { moment = bot.contact + s.settings.death_timeout_secs; cause = cause.Bot; number = bot.no })

-- a blob is kept until its deadline
abbrev pub blob_end : BlobRow → Deadline
blob_end blob = record { moment = blob.deadline; cause = cause.Blob; number = blob.no }

abbrev pub deadlines : PoolState → List Deadline
deadlines s =
    filter_map slice_end s.tasks
    ++ (filter_map (silence_end s) s.tasks
    ++ (filter_map (bot_end s) s.bots
    ++ map blob_end s.blobs))

-- by moment, then cause, then number
abbrev pub is_earlier : Deadline → Deadline → Bool
is_earlier a b =
    nat_lt a.moment b.moment
    || (a.moment == b.moment && (nat_lt (rank a.cause) (rank b.cause) || (rank a.cause == rank b.cause && nat_lt a.number b.number)))

-- the earliest so far, where one more is looked at
abbrev pub earlier : Option Deadline → Deadline → Deadline
earlier None d = d
earlier (Some best) d = if is_earlier d best then d else best

abbrev pub sooner : Option Deadline → Deadline → Option Deadline
sooner best d = Some (earlier best d)

-- the earliest of all deadlines
abbrev pub next_deadline : PoolState → Option Deadline
next_deadline s = fold sooner None (deadlines s)

-- a deadline has come at its very moment
abbrev pub if_come : ℕ → Deadline → Option Deadline
if_come moment d = if nat_le d.moment moment then Some d else None

-- the earliest deadline, where it has come by a moment
abbrev pub due : PoolState → ℕ → Option Deadline
due s moment = option_and_then (if_come moment) (next_deadline s)

-- how a task ends whose slice ran out, and no later one is open: after its last slice it is
-- expired, and before it no bot could run the rest
abbrev pub last_state : TaskRow → TaskState
last_state task = if task.slice + 1 == length task.request.task_slices then Expired else NoResource

-- what becomes of a task whose slice has run out
abbrev pub next_of : PoolState → TaskRow → Outcome
next_of s task = option_map_or outcome.Slice (admit s task.request.task_slices (task.slice + 1)) (outcome.Ended (last_state task))

-- what the log says of a deadline
abbrev pub settled : PoolState → Cause → ℕ → EntryKind
settled s cause.Slice number = kind.Slice number (option_map_or (next_of s) (task_of s number) (outcome.Ended NoResource))
settled s cause.Silence number = kind.Silence number
settled s cause.Bot number = kind.Dead number
settled s cause.Blob number = kind.Blob number (option_map_or (λ blob. is_used s blob.digest) (blob_numbered s number) false)

abbrev pub entry_of : PoolState → ℕ → Deadline → Entry
entry_of s pass d = record { moment = d.moment; pass = pass; kind = settled s d.cause d.number }

-- the entry of the earliest deadline, where it has come by a moment
abbrev pub due_entry : PoolState → ℕ → ℕ → Option Entry
due_entry s moment pass = option_map (entry_of s pass) (due s moment)
