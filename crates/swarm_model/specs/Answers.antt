-- The answer to each request, and the entry that it adds.
use Rattle.std.specs.Prelude.{ℕ, Bool, true, false, [], unwrap_or, ◌+◌, ◌-◌, ◌^◌, ◌==◌, ◌&&◌, ◌||◌, not, min, List, length, map, take, Option, Some, None, is_some, is_none, nat_le, nat_lt, if◌then◌else◌}
use Rattle.std.specs.List.{count_by, filter, find, list_any}
use Rattle.std.specs.Option.{option_map, option_map_or, option_and_then, option_eq}
use Rattle.swarm_model.specs.Types.{Text, BotDims, BlobRow, File, Slice, NewTask, TaskState, Pending, Running, BotDied, Completed, NoResource, Attempt, Chunk, Last, Retried, Permission, TaskRow, BotRow, PoolState, Entry, EntryKind, EventKind, Request, Rule, Reply, Answer, Reuse}
use Rattle.dimensions.specs.Alike.{same, same_dims}
use Rattle.dimensions.specs.Choosing.{when, ◌or_else◌}
use Rattle.dimensions.specs.Rules.{is_empty}
use Rattle.task_props.specs.Alike.{same_task}
use Rattle.swarm_model.specs.declared.permission.Permission.TheVariants as permission
use Rattle.swarm_model.specs.declared.entry.EntryKind.TheVariants as kind
use Rattle.swarm_model.specs.declared.request.Request.TheVariants as ask
use Rattle.swarm_model.specs.declared.rule.Unfit.{Unfit}
use Rattle.swarm_model.specs.declared.rule.Unfit.TheVariants as unfit
use Rattle.swarm_model.specs.declared.rule.Rule.TheVariants as rule
use Rattle.swarm_model.specs.declared.reply.Reply.TheVariants as reply
use Rattle.swarm_model.specs.declared.answer.Decision.{Decision}
use Rattle.swarm_model.specs.Alike.{same_chunk, same_last}
use Rattle.swarm_model.specs.Settings.{permits}
use Rattle.swarm_model.specs.Blobs.{lacks_chunk, missing_file, inputs_of, can_take}
use Rattle.swarm_model.specs.Effects.{fresh_chunk, next_try}
use Rattle.swarm_model.specs.Finding.{has_state, task_of, bot_named, blob_of, has_blob, is_final, is_wanted}
use Rattle.swarm_model.specs.Output.{chunks_within, parts_within}
use Rattle.swarm_model.specs.Reuse.{sent, reuse}
use Rattle.swarm_model.specs.Slices.{admit, current_slice, first}
use Rattle.swarm_model.specs.Views.{attempt_shown, bot_name_of, files_of, view_of, bot_view_of}
use Rattle.swarm_model.specs.Pages.{listed_tasks, listed_bots, cursor_of}
use Rattle.swarm_model.specs.Words.{◌otherwise◌}

-- a reply that adds nothing
abbrev pub reply_only : Reply → Decision
reply_only answer = record { reply = answer; entry = None }

abbrev pub refusal : Rule → Decision
refusal why = reply_only (reply.No why)

abbrev pub tasks_full : PoolState → Decision
tasks_full s = refusal (rule.PoolTasksFull s.settings.most_tasks)

abbrev pub blob_missing : List ℕ → Decision
blob_missing digest = refusal (rule.BlobMissing digest)

-- the refusal of a file that no blob is
abbrev pub file_missing : File → Decision
file_missing file = blob_missing file.digest

-- a task that is sent again under its uuid is told once more; another under that uuid is refused
abbrev pub resubmitted : NewTask → TaskRow → Decision
resubmitted request task =
    if same_task task.request request
    then reply_only (reply.New task.no task.state)
    else refusal (rule.UuidReused task.no)

-- the next task, in this state and at this slice, with the task whose outcome it takes
abbrev pub new_task_decision : PoolState → List ℕ → NewTask → TaskState → ℕ → Option ℕ → Decision
new_task_decision s who request state slice source =
    record {
      reply = reply.New (length s.tasks + 1) state;
      entry = Some (kind.New (length s.tasks + 1) who request state slice source);
    }

-- a task waits at its first open slice, and ends at once where none is open
abbrev pub accepted_at : PoolState → List ℕ → NewTask → Option ℕ → Decision
accepted_at s who request (Some place) = new_task_decision s who request Pending place None
accepted_at s who request None = new_task_decision s who request NoResource (length request.task_slices - 1) None

abbrev pub accepted : PoolState → List ℕ → NewTask → Decision
accepted s who request = accepted_at s who request (admit s request.task_slices 0)

-- a task takes the outcome of an earlier run at the slice that is like it
abbrev pub reuse_outcome : PoolState → List ℕ → NewTask → Reuse → Decision
reuse_outcome s who request found = new_task_decision s who request Completed found.slice (Some found.source)

abbrev pub new_task : PoolState → List ℕ → ℕ → NewTask → Decision
new_task s who moment request =
    option_map (resubmitted request) (sent s who request.request_uuid)
    otherwise option_map file_missing (missing_file s (inputs_of request.task_slices))
    otherwise when (nat_le s.settings.most_tasks (length s.tasks)) (tasks_full s)
    otherwise option_map (reuse_outcome s who request) (reuse s moment request.task_slices)
    otherwise accepted s who request

-- what follows where there is a value, and the refusal where there is none
abbrev pub or_refuse : {A : Type 0} → Option A → Rule → (A → Decision) → Decision
or_refuse None why next = refusal why
or_refuse (Some value) why next = next value

abbrev pub has_try : ℕ → Option Attempt → Bool
has_try try_no attempt = option_map_or (λ a. a.try_no == try_no) attempt false

-- the task as it would stand, had the run that was tried again been its last
abbrev pub lost_row : TaskRow → Retried → TaskRow
lost_row task lost = record task { state = BotDied; slice = lost.slice; attempt = Some lost.attempt; ended = Some lost.over }

-- that row, where the run is that try
abbrev pub if_lost : ℕ → TaskRow → Retried → Option TaskRow
if_lost try_no task lost = when (lost.attempt.try_no == try_no) (lost_row task lost)

-- 0 names the task with its run, and any other number the run of that try
abbrev pub if_named : ℕ → TaskRow → Option TaskRow
if_named try_no task =
    when (try_no == 0 || has_try try_no task.attempt) task
    or_else option_and_then (if_lost try_no task) task.retried

-- the task as the number of a try shows it
abbrev pub named_task : PoolState → ℕ → ℕ → Option TaskRow
named_task s number try_no = option_and_then (if_named try_no) (task_of s number)

-- the task itself, where it has that try
abbrev pub whole_of : ℕ → TaskRow → Option TaskRow
whole_of try_no task = when (is_some (if_named try_no task)) task

abbrev pub whole_task : PoolState → ℕ → ℕ → Option TaskRow
whole_task s number try_no = option_and_then (whole_of try_no) (task_of s number)

-- the caller sent the task, or may do this with every task of the pool
abbrev pub may : PoolState → List ℕ → Permission → TaskRow → Bool
may s who permission task = same task.creator who || permits s.settings who permission

abbrev pub denied : PoolState → Permission → Decision
denied s permission = refusal (rule.Denied permission s.settings.name)

-- the reply to a task that isn't wanted any more, and the entry that it adds
abbrev pub cancels : Bool → Bool → Option EntryKind → Decision
cancels canceled was_running entry = record { reply = reply.Canceled canceled was_running; entry = entry }

abbrev pub is_killed : Option Attempt → Bool
is_killed attempt = option_map_or (λ a. a.kill) attempt false

-- a run goes on, unless it is to stop, too; it is asked to stop once
abbrev pub stop : Bool → TaskRow → Decision
stop false task = cancels false true None
stop true task = cancels true true (if is_killed task.attempt then None else Some (kind.Kill task.no))

-- a task that waits ends; one that has ended stays as it is
abbrev pub cancel_row : Bool → TaskRow → Decision
cancel_row kill task =
    when (has_state Pending task) (cancels true false (Some (kind.Cancel task.no)))
    otherwise when (has_state Running task) (stop kill task)
    otherwise cancels false false None

abbrev pub cancel : PoolState → List ℕ → Bool → TaskRow → Decision
cancel s who kill task =
    when (not (may s who permission.CancelTask task)) (denied s permission.CancelTask)
    otherwise cancel_row kill task

abbrev pub result_of : PoolState → List ℕ → TaskRow → Decision
result_of s who task =
    when (not (may s who permission.ListTasks task)) (denied s permission.ListTasks)
    otherwise reply_only (reply.Result (view_of s task))

-- the output between two places, or the first chunk of it whose blob is gone
abbrev pub output_gone : Chunk → Decision
output_gone chunk = refusal (rule.OutputGone chunk.digest)

abbrev pub output_between : PoolState → ℕ → ℕ → TaskState → List Chunk → Decision
output_between s from to state chunks =
    option_map output_gone (find (lacks_chunk s) (chunks_within from to chunks))
    otherwise reply_only (reply.Stdout state (parts_within from to chunks))

-- the chunks of the output that a task shows
abbrev pub chunks_shown : PoolState → TaskRow → List Chunk
chunks_shown s task = option_map_or (λ attempt. attempt.chunks) (attempt_shown s task) []

abbrev pub stdout_of : PoolState → List ℕ → ℕ → ℕ → TaskRow → Decision
stdout_of s who offset length task =
    when (not (may s who permission.ListTasks task)) (denied s permission.ListTasks)
    otherwise output_between s offset (offset + length) task.state (chunks_shown s task)

-- at most so many of the rows that are left, with where the next page goes on
abbrev pub list_tasks : PoolState → ℕ → List TaskRow → Decision
list_tasks s limit tasks = reply_only (reply.Tasks (map (view_of s) (take limit tasks)) (cursor_of (λ (task : TaskRow). task.no) limit tasks))

abbrev pub count_tasks : PoolState → Option TaskState → Decision
count_tasks s state = reply_only (reply.Count (count_by (is_wanted state) s.tasks))

-- ---- bots

abbrev pub reply_with_entry : Reply → EntryKind → Decision
reply_with_entry answer entry = record { reply = answer; entry = Some entry }

-- a bot that is known: a new session begins anew
abbrev pub known_bot : List ℕ → List ℕ → BotDims → List ℕ → BotRow → Decision
known_bot name session dims quarantined bot =
    if same bot.session session
    then reply_with_entry (reply.Shaken name) (kind.Contact bot.no)
    else reply_with_entry (reply.Shaken name) (kind.Handshake bot.no name session dims quarantined)

abbrev pub bots_full : PoolState → Decision
bots_full s = refusal (rule.PoolBotsFull s.settings.most_bots)

abbrev pub handshake : PoolState → List ℕ → List ℕ → BotDims → List ℕ → Decision
handshake s name session dims quarantined =
    option_map (known_bot name session dims quarantined) (bot_named s name)
    otherwise when (nat_le s.settings.most_bots (length s.bots)) (bots_full s)
    otherwise reply_with_entry (reply.Shaken name) (kind.Handshake (length s.bots + 1) name session dims quarantined)

-- the task that a bot runs
abbrev pub run_on : PoolState → BotRow → Option TaskRow
run_on s bot = option_and_then (task_of s) bot.task

abbrev pub try_of : TaskRow → ℕ
try_of task = option_map_or (λ attempt. attempt.try_no) task.attempt 0

abbrev pub busy : TaskRow → Decision
busy task = refusal (rule.BotBusy task.no (try_of task))

-- the seconds of a bot's next nap
abbrev pub sleep_secs : BotRow → ℕ
sleep_secs bot = min 60 (2 ^ min bot.streak 6)

-- what an entry holds of a value: nothing where it is as it was
abbrev pub dims_unless : BotDims → BotDims → Option BotDims
dims_unless old new = if same_dims old new then None else Some new

abbrev pub text_unless : List ℕ → List ℕ → Option Text
text_unless old new = if same old new then None else Some new

abbrev pub polls : BotRow → BotDims → List ℕ → Bool → Reply → Decision
polls bot dims quarantined hint answer =
    reply_with_entry answer (kind.Poll bot.no (dims_unless bot.dims dims) (text_unless bot.quarantined quarantined) hint)

abbrev pub poll : PoolState → BotDims → List ℕ → BotRow → Decision
poll s dims quarantined bot =
    when bot.dead (refusal (rule.BotUnfit unfit.Dead))
    otherwise option_map busy (run_on s bot)
    otherwise when bot.terminating (polls bot dims quarantined false reply.Terminate)
    otherwise when (not (is_empty quarantined)) (polls bot dims quarantined false (reply.Sleep (sleep_secs bot)))
    otherwise when (is_some (first s bot.no dims)) (polls bot dims quarantined true reply.ClaimHint)
    otherwise polls bot dims quarantined false (reply.Sleep (sleep_secs bot))

abbrev pub is_claim : ℕ → List ℕ → Attempt → Bool
is_claim bot claim attempt = attempt.bot == bot && same attempt.claim claim

-- the run of the task is of this claim
abbrev pub is_claimed : ℕ → List ℕ → TaskRow → Bool
is_claimed bot claim task = option_map_or (is_claim bot claim) task.attempt false

-- the run that was tried again is
abbrev pub was_claimed : ℕ → List ℕ → TaskRow → Bool
was_claimed bot claim task = option_map_or (λ lost. is_claim bot claim lost.attempt) task.retried false

-- either is
abbrev pub has_claim : ℕ → List ℕ → TaskRow → Bool
has_claim bot claim task = is_claimed bot claim task || was_claimed bot claim task

-- the task as the run of this claim shows it
abbrev pub as_claimed : ℕ → List ℕ → TaskRow → TaskRow
as_claimed bot claim task = if is_claimed bot claim task then task else option_map_or (lost_row task) task.retried task

-- the task that the bot claimed under this id
abbrev pub claimed : PoolState → ℕ → List ℕ → Option TaskRow
claimed s bot claim = find (has_claim bot claim) s.tasks

abbrev pub run_from : ℕ → TaskRow → Slice → Reply
run_from try_no task slice = reply.Run task.no try_no task.slice task.request.bot_ping_tolerance_secs slice.properties

-- the run of the current slice, with the number of its try
abbrev pub run : ℕ → TaskRow → Reply
run try_no task = option_map_or (run_from try_no task) (current_slice task) reply.Skip

-- the bot goes on with what it claimed, or is told how that ended
abbrev pub run_again : BotRow → TaskRow → Decision
run_again bot task =
    if is_final task.state
    then refusal (rule.ClaimOver task.no (try_of task) task.state)
    else reply_with_entry (run (try_of task) task) (kind.Contact bot.no)

abbrev pub claim_again : BotRow → List ℕ → TaskRow → Decision
claim_again bot id task = run_again bot (as_claimed bot.no id task)

-- why a bot gets no work
abbrev pub unfit_of : BotRow → Option Unfit
unfit_of bot =
    when bot.dead unfit.Dead
    or_else when (not (is_empty bot.quarantined)) unfit.Quarantined
    or_else when bot.terminating unfit.Terminating

abbrev pub unfit_refusal : Unfit → Decision
unfit_refusal why = refusal (rule.BotUnfit why)

abbrev pub claims : BotRow → List ℕ → TaskRow → Decision
claims bot id task = reply_with_entry (run (next_try task) task) (kind.Claim bot.no task.no id)

abbrev pub claim : PoolState → List ℕ → BotRow → Decision
claim s id bot =
    option_map (claim_again bot id) (claimed s bot.no id)
    otherwise option_map unfit_refusal (unfit_of bot)
    otherwise option_map busy (run_on s bot)
    otherwise option_map (claims bot id) (first s bot.no bot.dims)
    otherwise reply_with_entry reply.Skip (kind.Contact bot.no)

abbrev pub event : EventKind → List ℕ → BotRow → Decision
event which message bot =
    when (bot.dead && is_none bot.task) (unfit_refusal unfit.Dead)
    otherwise reply_with_entry reply.Noted (kind.Event bot.no which message)

-- the report is the one that ended the run
abbrev pub is_kept : Attempt → Option Chunk → Option Last → Bool
is_kept attempt chunk last =
    is_some attempt.last && (option_eq same_last attempt.last last && option_eq same_chunk attempt.last_chunk chunk)

-- the bot's report is taken, and it is told whether its run is to stop
abbrev pub updates : Attempt → EntryKind → Decision
updates attempt entry = reply_with_entry (reply.Updated attempt.kill) entry

-- a run that has ended takes only the report that ended it, once more
abbrev pub report_again : BotRow → TaskRow → Option Chunk → Option Last → Attempt → Decision
report_again bot task chunk last attempt =
    if is_kept attempt chunk last
    then updates attempt (kind.Contact bot.no)
    else refusal (rule.AttemptOver task.state)

-- a chunk begins past the output that is kept, or within it and is none of those that were kept
abbrev pub chunk_rule : Attempt → Chunk → Option Rule
chunk_rule attempt chunk =
    when (nat_lt attempt.length chunk.start) (rule.OutputGap attempt.length)
    or_else when (nat_lt chunk.start attempt.length && not (list_any (same_chunk chunk) attempt.chunks)) (rule.OutputOverlap chunk.start)

abbrev pub store_full : PoolState → ℕ → Decision
store_full s size = refusal (rule.StoreFull (length s.blobs) size)

-- the chunk that is to be kept, where the pool has no place for it
abbrev pub unplaced_chunk : PoolState → Option Chunk → Option Chunk
unplaced_chunk s chunk = option_and_then (λ c. when (not (can_take s c.digest c.size)) c) chunk

-- the report ends the run, or brings a chunk
abbrev pub is_first_report : Attempt → Option Chunk → Option Last → Bool
is_first_report attempt chunk last = is_some last || is_some (fresh_chunk (Some attempt) chunk)

abbrev pub report_running : PoolState → BotRow → TaskRow → Option Chunk → Option Last → Attempt → Decision
report_running s bot task chunk last attempt =
    option_map refusal (option_and_then (chunk_rule attempt) chunk)
    otherwise option_map file_missing (missing_file s (files_of last))
    otherwise option_map (λ c. store_full s c.size) (unplaced_chunk s (fresh_chunk (Some attempt) chunk))
    otherwise when (is_first_report attempt chunk last) (updates attempt (kind.Update bot.no task.no attempt.try_no chunk last))
    otherwise updates attempt (kind.Contact bot.no)

abbrev pub report : PoolState → BotRow → TaskRow → Option Chunk → Option Last → Attempt → Decision
report s bot task chunk last attempt =
    when (is_final task.state) (report_again bot task chunk last attempt)
    otherwise report_running s bot task chunk last attempt

-- the run is another bot's
abbrev pub not_claimant : PoolState → Attempt → Decision
not_claimant s attempt = refusal (rule.NotClaimant (unwrap_or (bot_name_of s attempt) []))

abbrev pub report_on : PoolState → BotRow → TaskRow → Option Chunk → Option Last → Attempt → Decision
report_on s bot task chunk last attempt =
    when (not (attempt.bot == bot.no)) (not_claimant s attempt)
    otherwise report s bot task chunk last attempt

-- what a bot reports on a run
abbrev pub update_row : PoolState → BotRow → Option Chunk → Option Last → TaskRow → Decision
update_row s bot chunk last task = or_refuse task.attempt rule.NoTask (report_on s bot task chunk last)

abbrev pub update : PoolState → ℕ → ℕ → Option Chunk → Option Last → BotRow → Decision
update s task try_no chunk last bot = or_refuse (named_task s task try_no) rule.NoTask (update_row s bot chunk last)

abbrev pub terminate : BotRow → Decision
terminate bot = if bot.terminating then reply_only reply.Terminating else reply_with_entry reply.Terminating (kind.Terminate bot.no)

abbrev pub list_bots : PoolState → ℕ → List BotRow → Decision
list_bots s limit bots = reply_only (reply.Bots (map (bot_view_of s) (take limit bots)) (cursor_of (λ (bot : BotRow). bot.name) limit bots))

abbrev pub show_bot : PoolState → BotRow → Decision
show_bot s bot = reply_only (reply.Bot (bot_view_of s bot))

-- ---- blobs

-- the digests must be one, and the blob must be present or have a place; it is fresh where it is not present
abbrev pub put_blob : PoolState → List ℕ → List ℕ → ℕ → Decision
put_blob s named actual size =
    when (not (same actual named)) (refusal (rule.DigestDiffers actual))
    otherwise when (not (can_take s named size)) (store_full s size)
    otherwise reply_with_entry (reply.Put (is_none (blob_of s named))) (kind.Put named size)

abbrev pub show_blob : BlobRow → Decision
show_blob blob = reply_only (reply.Blob blob.digest blob.size)

abbrev pub is_missing : PoolState → List ℕ × ℕ → Bool
is_missing s blob = not (has_blob s blob.0 blob.1)

-- those that no blob is, by digest and size, in their order
abbrev pub find_missing : PoolState → List (List ℕ × ℕ) → Decision
find_missing s blobs = reply_only (reply.Missing (filter (is_missing s) blobs))

-- ---- all requests

-- what a caller is told at a moment
abbrev pub decide : PoolState → List ℕ → ℕ → Request → Decision
decide s who moment (ask.New request) = new_task s who moment request
decide s who moment (ask.Cancel task try_no kill) = or_refuse (whole_task s task try_no) rule.NoTask (cancel s who kill)
decide s who moment (ask.Result task try_no) = or_refuse (named_task s task try_no) rule.NoTask (result_of s who)
decide s who moment (ask.Stdout task try_no offset length) = or_refuse (named_task s task try_no) rule.NoTask (stdout_of s who offset length)
decide s who moment (ask.List state limit below) = list_tasks s limit (listed_tasks s state below)
decide s who moment (ask.Count state) = count_tasks s state
decide s who moment (ask.Handshake bot session dims quarantined) = handshake s bot session dims quarantined
decide s who moment (ask.Poll bot dims quarantined) = or_refuse (bot_named s bot) rule.NoBot (poll s dims quarantined)
decide s who moment (ask.Claim bot id) = or_refuse (bot_named s bot) rule.NoBot (claim s id)
decide s who moment (ask.Event bot which message) = or_refuse (bot_named s bot) rule.NoBot (event which message)
decide s who moment (ask.Update bot task try_no chunk last) = or_refuse (bot_named s bot) rule.NoBot (update s task try_no chunk last)
decide s who moment (ask.Terminate bot) = or_refuse (bot_named s bot) rule.NoBot terminate
decide s who moment (ask.Bots limit after) = list_bots s limit (listed_bots s after)
decide s who moment (ask.Bot bot) = or_refuse (bot_named s bot) rule.NoBot (show_bot s)
decide s who moment (ask.PutBlob named actual size) = put_blob s named actual size
decide s who moment (ask.GetBlob digest) = or_refuse (blob_of s digest) (rule.BlobMissing digest) show_blob
decide s who moment (ask.FindMissing blobs) = find_missing s blobs

abbrev pub entry_at : ℕ → ℕ → EntryKind → Entry
entry_at moment pass kind = record { moment = moment; pass = pass; kind = kind }

-- the reply and at most one entry, with the moment and the number of the pass
abbrev pub answer : PoolState → List ℕ → ℕ → ℕ → Request → Answer
answer s who moment pass request =
    record {
      reply = (decide s who moment request).reply;
      entry = option_map (entry_at moment pass) (decide s who moment request).entry;
    }
