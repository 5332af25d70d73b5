-- Logs that a pool may have.
use Rattle.std.specs.Prelude.{true, false, List, [], ◌∷◌, take, Some, None, pos, codes}
use Rattle.pool_laws.specs.Types.{BotDims, File, Properties, NewTask, Pending, Completed, Expired, Chunk, PoolSettings, PoolState, Request, Entry}
use Rattle.swarm_model.specs.declared.request.Request.TheVariants as ask
use Rattle.swarm_model.specs.declared.entry.EntryKind.TheVariants as kind
use Rattle.swarm_model.specs.declared.entry.Outcome.TheVariants as outcome
use Rattle.swarm_model.specs.Answers.{entry_at}
use Rattle.swarm_model.specs.Effects.{opening}
use Rattle.swarm_model.specs.Examples.{settings, small_task, properties, exited_with}
use Rattle.swarm_model.specs.History.{IsCaused, replay}

abbrev pub small_dims : BotDims
small_dims = (codes "id", codes "bot-1" ∷ []) ∷ (codes "pool", codes "default" ∷ []) ∷ []

-- a bot comes, claims a task, is heard once more, and falls silent
abbrev pub worked_log : List Entry
worked_log =
    entry_at 1000 0 (kind.New 1 (codes "ana") (small_task 600) Pending 0 None)
    ∷ entry_at 1001 0 (kind.Handshake 1 (codes "bot-1") (codes "session-1") small_dims [])
    ∷ entry_at 1002 0 (kind.Claim 1 1 (codes "claim-1"))
    ∷ entry_at 1003 0 (kind.Contact 1)
    ∷ entry_at 1603 0 (kind.Dead 1)
    ∷ entry_at 2203 0 (kind.Silence 1)
    ∷ []

-- it is a log that a pool may have
abbrev pub ItHappens : Type 0
ItHappens = IsCaused (opening settings) worked_log

-- of two tasks one is canceled while it waits; the other runs, is asked to stop, and ends by a report that comes twice
abbrev pub ended_log : List Entry
ended_log =
    entry_at 1000 0 (kind.New 1 (codes "ana") (small_task 600) Pending 0 None)
    ∷ entry_at 1000 0 (kind.New 2 (codes "ana") (small_task 600) Pending 0 None)
    ∷ entry_at 1001 0 (kind.Handshake 1 (codes "bot-1") (codes "session-1") small_dims [])
    ∷ entry_at 1002 0 (kind.Claim 1 1 (codes "claim-1"))
    ∷ entry_at 1003 0 (kind.Cancel 2)
    ∷ entry_at 1004 0 (kind.Kill 1)
    ∷ entry_at 1005 0 (kind.Update 1 1 1 None (Some (exited_with (pos 0))))
    ∷ entry_at 1006 0 (kind.Contact 1)
    ∷ []

-- such a log, too
abbrev pub RunsEnd : Type 0
RunsEnd = IsCaused (opening settings) ended_log

abbrev pub repeatable : Properties
repeatable = record properties { idempotent = true }

-- a small task whose run may stand for others
abbrev pub repeatable_task : NewTask
repeatable_task =
    record (small_task 600) { task_slices = (record { expiration_secs = 600; wait_for_capacity = true; properties = repeatable }) ∷ [] }

-- it runs and reports 0, and is sent once more by another caller
abbrev pub taken_log : List Entry
taken_log =
    entry_at 1000 0 (kind.New 1 (codes "ana") repeatable_task Pending 0 None)
    ∷ entry_at 1001 0 (kind.Handshake 1 (codes "bot-1") (codes "session-1") small_dims [])
    ∷ entry_at 1002 0 (kind.Claim 1 1 (codes "claim-1"))
    ∷ entry_at 1005 0 (kind.Update 1 1 1 None (Some (exited_with (pos 0))))
    ∷ entry_at 1006 0 (kind.New 2 (codes "ben") repeatable_task Completed 0 (Some 1))
    ∷ []

-- and such a log
abbrev pub OutcomeIsTaken : Type 0
OutcomeIsTaken = IsCaused (opening settings) taken_log

-- a pool that tries again
abbrev pub retrying : PoolSettings
retrying = record settings { retries = 1 }

abbrev pub other_dims : BotDims
other_dims = (codes "id", codes "bot-2" ∷ []) ∷ (codes "pool", codes "default" ∷ []) ∷ []

-- the bot that claimed a task begins anew, so its run is lost; another bot claims the task, and reports 0
abbrev pub retried_log : List Entry
retried_log =
    entry_at 1000 0 (kind.New 1 (codes "ana") repeatable_task Pending 0 None)
    ∷ entry_at 1001 0 (kind.Handshake 1 (codes "bot-1") (codes "session-1") small_dims [])
    ∷ entry_at 1001 0 (kind.Handshake 2 (codes "bot-2") (codes "session-1") other_dims [])
    ∷ entry_at 1002 0 (kind.Claim 1 1 (codes "claim-1"))
    ∷ entry_at 1003 0 (kind.Handshake 1 (codes "bot-1") (codes "session-2") small_dims [])
    ∷ entry_at 1004 0 (kind.Claim 2 1 (codes "claim-1"))
    ∷ entry_at 1005 0 (kind.Update 2 1 2 None (Some (exited_with (pos 0))))
    ∷ []

-- and such a log
abbrev pub RunIsRetried : Type 0
RunIsRetried = IsCaused (opening retrying) retried_log

-- two chunks of an output, one behind the other
abbrev pub first_chunk : Chunk
first_chunk = record { start = 0; digest = codes "of the first bytes of the output"; size = 6 }

abbrev pub second_chunk : Chunk
second_chunk = record { start = 6; digest = codes "and of those that come after it."; size = 5 }

-- a run reports its output in two chunks, the first of them twice, and ends
abbrev pub reported_log : List Entry
reported_log =
    entry_at 1000 0 (kind.New 1 (codes "ana") (small_task 600) Pending 0 None)
    ∷ entry_at 1001 0 (kind.Handshake 1 (codes "bot-1") (codes "session-1") small_dims [])
    ∷ entry_at 1002 0 (kind.Claim 1 1 (codes "claim-1"))
    ∷ entry_at 1003 0 (kind.Update 1 1 1 (Some first_chunk) None)
    ∷ entry_at 1004 0 (kind.Contact 1)
    ∷ entry_at 1005 0 (kind.Update 1 1 1 (Some second_chunk) (Some (exited_with (pos 0))))
    ∷ []

-- such a log, too
abbrev pub OutputIsReported : Type 0
OutputIsReported = IsCaused (opening settings) reported_log

-- the pool with the first chunk, and that chunk once more
abbrev pub begun_output : PoolState
begun_output = replay (opening settings) (take 4 reported_log)

abbrev pub sent_again : Request
sent_again = ask.Update (codes "bot-1") 1 1 (Some first_chunk) None

-- a file of 11 bytes
abbrev pub input : File
input = record { path = codes "input.txt"; digest = codes "a digest, of 32 bytes as all are"; size = 11 }

abbrev pub with_input : Properties
with_input = record properties { inputs = input ∷ [] }

-- a small task that needs it
abbrev pub needing_task : NewTask
needing_task =
    record (small_task 1000) { task_slices = (record { expiration_secs = 1000; wait_for_capacity = true; properties = with_input }) ∷ [] }

-- a blob is put; at its deadline a task that waits needs it, and at the next one none does
abbrev pub kept_log : List Entry
kept_log =
    entry_at 1000 0 (kind.Put input.digest 11)
    ∷ entry_at 605000 0 (kind.New 1 (codes "ana") needing_task Pending 0 None)
    ∷ entry_at 605800 0 (kind.Blob 1 true)
    ∷ entry_at 606000 0 (kind.Slice 1 (outcome.Ended Expired))
    ∷ entry_at 1210600 0 (kind.Blob 1 false)
    ∷ []

-- and such a log
abbrev pub BlobIsKept : Type 0
BlobIsKept = IsCaused (opening settings) kept_log
