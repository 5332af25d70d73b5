-- What an entry of each kind finds in the pool.
use Rattle.std.proofs.Common.{◌≡◌, ℕ, ◌+◌, ◌<◌, Bool, true, false, List, ◌⊎◌, length, Option, Some, None, IfSome}
use Rattle.std.specs.Prelude.{⊤, slice_get}
use Rattle.std.specs.Option.{option_map_or, option_and_then}
use Rattle.dimensions.specs.Alike.{same}
use Rattle.pool_laws.specs.Types.{BlobRow, NewTask, Slice, TaskState, Pending, Running, Completed, NoResource, Attempt, Chunk, Last, TaskRow, BotRow, PoolState, EntryKind, Outcome}
use Rattle.task_props.specs.Canonical.{hash}
use Rattle.task_props.specs.Checked.{is_checked}
use Rattle.swarm_model.specs.declared.entry.EntryKind.TheVariants as kind
use Rattle.swarm_model.specs.declared.entry.Outcome.TheVariants as outcome
use Rattle.swarm_model.specs.Finding.{has_state, is_state, is_final, task_of, bot_named, blob_numbered}
use Rattle.swarm_model.specs.Slices.{first}
use Rattle.swarm_model.specs.Reuse.{sent, ended_well, ran_hash}
use Rattle.swarm_model.specs.Answers.{run_on, claimed, unfit_of, chunk_rule, unplaced_chunk, is_first_report}
use Rattle.swarm_model.specs.Blobs.{missing_file, inputs_of, can_take}
use Rattle.swarm_model.specs.Effects.{fresh_chunk}
use Rattle.swarm_model.specs.Fits.{fits_chunk}
use Rattle.swarm_model.specs.Uses.{is_used}
use Rattle.swarm_model.specs.Views.{files_of}
use Rattle.swarm_model.specs.Deadlines.{next_of}
use Rattle.pool_laws.proofs.Lists.{Among}

-- a task of that number of which the test holds
pub record HasTask (s : PoolState) (number : ℕ) (test : TaskRow → Bool) : Type 0 where
  pub task : TaskRow
  pub among : Among task s.tasks
  pub named : task.no ≡ number
  pub passes : test task ≡ true

abbrev pub waits : TaskRow → Bool
waits task = has_state Pending task

abbrev pub runs : TaskRow → Bool
runs task = has_state Running task

pub record FindsSlice (s : PoolState) (t : ℕ) (to : Outcome) : Type 0 where
  pub waiting : HasTask s t waits
  pub goes : to ≡ option_map_or (next_of s) (task_of s t) (outcome.Ended NoResource)

-- the task whose outcome a new one takes at its slice
pub record FindsSource (s : PoolState) (request : NewTask) (state : TaskState) (slice number : ℕ) : Type 0 where
  pub completed : state ≡ Completed
  pub own : Slice
  pub reached : slice_get request.task_slices slice ≡ Some own
  pub idempotent : own.properties.idempotent ≡ true
  pub source : TaskRow
  pub among : Among source s.tasks
  pub named : source.no ≡ number
  pub ended : ended_well source ≡ true
  pub alike : ran_hash (hash own.properties) source ≡ true

pub record FindsNew (s : PoolState) (t : ℕ) (who : List ℕ) (request : NewTask) (state : TaskState) (slice : ℕ) (from : Option ℕ) : Type 0 where
  pub next : t ≡ length s.tasks + 1
  pub room : length s.tasks < s.settings.most_tasks
  pub idle : is_state state Running ≡ false
  pub checked : is_checked request ≡ true
  pub has_inputs : missing_file s (inputs_of request.task_slices) ≡ None
  pub has_slice : slice < length request.task_slices
  pub unsent : sent s who request.request_uuid ≡ None
  pub takes : IfSome from (FindsSource s request state slice)

pub record IsOld (s : PoolState) (b : ℕ) (id : List ℕ) : Type 0 where
  pub bot : BotRow
  pub among : Among bot s.bots
  pub named : bot.no ≡ b
  pub called : same bot.name id ≡ true

pub record IsNewcomer (s : PoolState) (b : ℕ) (id : List ℕ) : Type 0 where
  pub unknown : bot_named s id ≡ None
  pub next : b ≡ length s.bots + 1
  pub room : length s.bots < s.settings.most_bots

pub record FindsClaim (s : PoolState) (b t : ℕ) (id : List ℕ) : Type 0 where
  pub bot : BotRow
  pub among : Among bot s.bots
  pub named : bot.no ≡ b
  pub fresh : claimed s bot.no id ≡ None
  pub fit : unfit_of bot ≡ None
  pub idle : run_on s bot ≡ None
  pub task : TaskRow
  pub gets : first s bot.no bot.dims ≡ Some task
  pub task_named : task.no ≡ t

-- the run of the bot that reports: its chunk, where it is no kept one, goes on from the output and has a place,
-- its files are there, and it ends the run or brings a chunk
pub record FindsUpdate (s : PoolState) (b t : ℕ) (chunk : Option Chunk) (last : Option Last) : Type 0 where
  pub bot : BotRow
  pub known : Among bot s.bots
  pub called : bot.no ≡ b
  pub task : TaskRow
  pub there : task_of s t ≡ Some task
  pub among : Among task s.tasks
  pub named : task.no ≡ t
  pub goes_on : is_final task.state ≡ false
  pub attempt : Attempt
  pub attempted : task.attempt ≡ Some attempt
  pub by_bot : attempt.bot ≡ b
  pub in_turn : option_and_then (chunk_rule attempt) chunk ≡ None
  pub has_files : missing_file s (files_of last) ≡ None
  pub has_place : unplaced_chunk s (fresh_chunk (Some attempt) chunk) ≡ None
  pub is_new : is_first_report attempt chunk last ≡ true
  pub fits : option_map_or fits_chunk chunk true ≡ true

-- the blob whose deadline has come at a moment, which is kept where a task needs it
pub record FindsBlob (s : PoolState) (m n : ℕ) (kept : Bool) : Type 0 where
  pub blob : BlobRow
  pub there : blob_numbered s n ≡ Some blob
  pub among : Among blob s.blobs
  pub named : blob.no ≡ n
  pub come : blob.deadline ≡ m
  pub used : kept ≡ is_used s blob.digest

abbrev pub Finds : PoolState → EntryKind → Type 0
Finds s (kind.Slice t to) = FindsSlice s t to
Finds s (kind.Silence t) = HasTask s t runs
Finds s (kind.Dead b) = ⊤
Finds s (kind.New t who request state slice from) = FindsNew s t who request state slice from
Finds s (kind.Cancel t) = HasTask s t waits
Finds s (kind.Kill t) = HasTask s t runs
Finds s (kind.Handshake b id session dims q) = IsNewcomer s b id ⊎ IsOld s b id
Finds s (kind.Poll b dims q hint) = ⊤
Finds s (kind.Claim b t id) = FindsClaim s b t id
Finds s (kind.Contact b) = ⊤
Finds s (kind.Event b e text) = ⊤
Finds s (kind.Update b t try_no chunk last) = FindsUpdate s b t chunk last
Finds s (kind.Terminate b) = ⊤
Finds s (kind.Put digest size) = can_take s digest size ≡ true
Finds s (kind.Blob n kept) = ⊤
