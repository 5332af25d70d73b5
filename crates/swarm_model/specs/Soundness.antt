-- What holds of every pool that a log leads to.
use Rattle.std.specs.Prelude.{◌≡◌, ◌≢◌, ◌↔◌, ◌⊎◌, ℕ, Bool, ◌+◌, ◌^◌, ◌≤◌, ◌<◌, ◌&&◌, IsTrue, IsFalse, List, length, map, slice_get, Option, Some, None, IfSome, is_some, is_none, if◌then◌else◌}
use Rattle.std.specs.List.{All, count_by}
use Rattle.std.specs.Option.{option_map, option_and_then}
use Rattle.blob_rows.specs.Extents.{AreApart}
use Rattle.blob_rows.specs.BlobRows.{units_of, has_digest, is_blob, extent_of_row}
use Rattle.swarm_model.specs.Types.{BlobRow, Slice, PoolSettings, Pending, Running, Attempt, Retried, TaskRow, BotRow, PoolState, Entry}
use Rattle.dimensions.specs.Rules.{is_empty}
use Rattle.task_props.specs.Checked.{is_checked}
use Rattle.swarm_model.specs.declared.request.Request.TheVariants as ask
use Rattle.swarm_model.specs.Numbers.{AreNumbered}
use Rattle.swarm_model.specs.Fits.{fits}
use Rattle.swarm_model.specs.Finding.{has_state}
use Rattle.swarm_model.specs.Deadlines.{deadlines}
use Rattle.swarm_model.specs.Blobs.{most_blobs}
use Rattle.swarm_model.specs.Effects.{opening, no_of_task, no_of_bot, life}
use Rattle.swarm_model.specs.History.{replay, IsCaused}
use Rattle.swarm_model.specs.Output.{AreInRow}

-- a pending task has no run and no end, a running one a run without a last update, a final one an end
abbrev pub fits_state : TaskRow → Bool
fits_state task =
    if has_state Pending task then is_none task.attempt && is_none task.ended
    else if has_state Running task then is_some task.attempt && (is_none (option_and_then (λ a. a.last) task.attempt) && is_none task.ended)
    else is_some task.ended

-- the bot that runs a task
abbrev pub runner : TaskRow → Option ℕ
runner task = if has_state Running task then option_map (λ attempt. attempt.bot) task.attempt else None

-- the chunks that are kept of a run follow each other from its first byte to the last, each with a byte at least
pub record IsSoundOutput (attempt : Attempt) : Type 0 where
  pub in_row : AreInRow 0 attempt.chunks attempt.length
  pub full : All (λ chunk. 1 ≤ chunk.size) attempt.chunks
  pub short : attempt.length ≤ 67108864

-- a run that was tried again is the first of its task, was not asked to stop and has no last update; the
-- pool tries again, and its slice is one of the task's and idempotent
pub record IsSoundRetried (s : PoolState) (slices : List Slice) (lost : Retried) : Type 0 where
  pub setting : s.settings.retries ≡ 1
  pub slice : Slice
  pub is_slice : slice_get slices lost.slice ≡ Some slice
  pub idempotent : IsTrue slice.properties.idempotent
  pub first : lost.attempt.try_no ≡ 1
  pub not_killed : IsFalse lost.attempt.kill
  pub no_last : lost.attempt.last ≡ None
  pub output : IsSoundOutput lost.attempt
  pub over : lost.over ≤ s.last

-- the run of a task is its first, or, where one was tried again, its second and by another bot
abbrev pub IsRightTry : Option Retried → Attempt → Type 0
IsRightTry None attempt = attempt.try_no ≡ 1
IsRightTry (Some lost) attempt = (attempt.try_no ≡ 2) × (attempt.bot ≢ lost.attempt.bot)

-- a row holds a checked request and a place of its slices; what began lies behind the last moment,
-- and the bot that runs the task is there
pub record IsSoundTask (s : PoolState) (task : TaskRow) : Type 0 where
  pub checked : IsTrue (is_checked task.request)
  pub has_slice : task.slice < length task.request.task_slices
  pub since : task.since ≤ s.last
  pub state : IsTrue (fits_state task)
  pub has_bot : IfSome (runner task) (λ bot. bot ≤ length s.bots)
  pub output : IfSome task.attempt IsSoundOutput
  pub retried : IfSome task.retried (IsSoundRetried s task.request.task_slices)
  pub tries : IfSome task.attempt (IsRightTry task.retried)

-- a bot was not heard after the last moment, its handshake is one that the pool may be asked, and
-- the task that it runs is there
pub record IsSoundBot (s : PoolState) (bot : BotRow) : Type 0 where
  pub contact : bot.contact ≤ s.last
  pub streak : bot.streak ≤ 63
  pub known : IsTrue (fits s.settings (ask.Handshake bot.name bot.session bot.dims bot.quarantined))
  pub has_task : IfSome bot.task (λ task. (1 ≤ task) × (task ≤ length s.tasks))

-- a bot's row names a task exactly where the task runs on the bot
abbrev pub Agree : BotRow → TaskRow → Type 0
Agree bot task = (bot.task ≡ Some task.no) ↔ (runner task ≡ Some bot.no)

-- the bot of an attempt, and the id of its claim
abbrev pub key_of : Attempt → ℕ × List ℕ
key_of attempt = (attempt.bot, attempt.claim)

-- those of the task's attempt
abbrev pub claim_key : TaskRow → Option (ℕ × List ℕ)
claim_key task = option_map key_of task.attempt

-- and of the one that was tried again
abbrev pub lost_key : TaskRow → Option (ℕ × List ℕ)
lost_key task = option_map (λ lost. key_of lost.attempt) task.retried

-- the bot claimed the task under the id, for either run
abbrev pub HasKey : TaskRow → ℕ × List ℕ → Type 0
HasKey task claim = (claim_key task ≡ Some claim) ⊎ (lost_key task ≡ Some claim)

-- tasks that one bot claimed under one id are one
abbrev pub AreClaimedApart : TaskRow → TaskRow → Type 0
AreClaimedApart a b = (claim : ℕ × List ℕ) → HasKey a claim → HasKey b claim → a.no ≡ b.no

-- the caller who sent a task under a uuid, with the uuid
abbrev pub sent_key : TaskRow → Option (List ℕ × List ℕ)
sent_key task = if is_empty task.request.request_uuid then None else Some (task.creator, task.request.request_uuid)

-- tasks that one caller sent under one uuid are one
abbrev pub AreSentApart : TaskRow → TaskRow → Type 0
AreSentApart a b = (key : List ℕ × List ℕ) → sent_key a ≡ Some key → sent_key b ≡ Some key → a.no ≡ b.no

-- bots of one name are one
abbrev pub AreNamedApart : BotRow → BotRow → Type 0
AreNamedApart a b = a.name ≡ b.name → a.no ≡ b.no

-- a blob has the units that its size takes, inside the region, a number that was given, and a deadline
-- at most a life after the last moment
pub record IsSoundBlob (s : PoolState) (blob : BlobRow) : Type 0 where
  pub units : blob.extent.units ≡ units_of blob.size
  pub inside : blob.extent.at + blob.extent.units ≤ s.settings.store_units
  pub placed : blob.no ≤ s.placed
  pub size : blob.size ≤ 16777216
  pub deadline : blob.deadline ≤ s.last + life s

pub record IsSound (s : PoolState) : Type 0 where
  pub last : s.last ≤ 2 ^ 40
  pub tasks_numbered : AreNumbered no_of_task 1 s.tasks
  pub bots_numbered : AreNumbered no_of_bot 1 s.bots
  pub few_tasks : length s.tasks ≤ s.settings.most_tasks
  pub few_bots : length s.bots ≤ s.settings.most_bots
  pub tasks : All (IsSoundTask s) s.tasks
  pub bots : All (IsSoundBot s) s.bots
  pub ahead : All (λ d. s.last ≤ d.moment) (deadlines s)
  pub runs : All (λ bot. All (Agree bot) s.tasks) s.bots
  pub claims : All (λ task. All (AreClaimedApart task) s.tasks) s.tasks
  pub sent : All (λ task. All (AreSentApart task) s.tasks) s.tasks
  pub names : All (λ bot. All (AreNamedApart bot) s.bots) s.bots
  pub few_blobs : length s.blobs ≤ most_blobs
  pub blobs : All (IsSoundBlob s) s.blobs
  pub digests : (digest : List ℕ) → count_by (has_digest digest) s.blobs ≤ 1
  pub numbers : (number : ℕ) → count_by (is_blob number) s.blobs ≤ 1
  pub apart : AreApart (map extent_of_row s.blobs)

-- each entry keeps a pool sound
abbrev pub StaysSound : Type 0
StaysSound = (settings : PoolSettings) (log : List Entry) → IsCaused (opening settings) log → IsSound (replay (opening settings) log)
