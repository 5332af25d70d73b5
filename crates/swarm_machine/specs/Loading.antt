-- Rows that are loaded one after another: first the bots, then the tasks, then the blobs.
use Rattle.std.specs.Prelude.{◌≡◌, ℕ, ◌<◌, ◌^◌, List, [], length, Option, slice_set, MatchOption}
use Rattle.swarm_machine.specs.Types.{BlobRow, Waiting, TaskRow, BotRow, Deadline, PoolState}
use Rattle.dim_queue.specs.declared.queue_set.QueueSet.{QueueSet}
use Rattle.dim_queue.specs.Plain.{QueueState, SameWaits, Enters}
use Rattle.swarm_model.specs.Soundness.{IsSound}
use Rattle.pool_index.specs.Deadlines.{SameDeadlines}
use Rattle.index_laws.specs.TaskUses.{uses_in}

-- ---- rows so far

-- the pool with these bots alone
abbrev pub with_bots : PoolState → List BotRow → PoolState
with_bots s bots = record s { tasks = []; bots = bots; blobs = [] }

-- the pool with its bots and these tasks
abbrev pub with_tasks : PoolState → List TaskRow → PoolState
with_tasks s tasks = record s { tasks = tasks; blobs = [] }

-- the pool with its bots, its tasks and these blobs
abbrev pub with_blobs : PoolState → List BlobRow → PoolState
with_blobs s blobs = record s { blobs = blobs }

-- ---- one row more

-- one task more waits, where it has a place
abbrev pub IsEntered : Option (Waiting × QueueSet) → List QueueState → List QueueState → Type 0
IsEntered place old new = MatchOption place (SameWaits old new) (λ its. Enters its.0 its.1 old new)

-- the deadlines, of which there may be more places now, with that of one number set
pub record IsEndSet (number : ℕ) (end : Option Deadline) (old new : List (Option Deadline)) : Type 0 where
  pub covered : List (Option Deadline)
  pub same : SameDeadlines old covered
  pub place : number < length covered
  pub is_set : new ≡ slice_set covered number end

-- ---- the rows that may be loaded

-- the pool is sound, has few tasks, and each digest has few uses
pub record MayLoad (s : PoolState) : Type 0 where
  pub sound : IsSound s
  pub few_tasks : length s.tasks < 2 ^ 32
  pub few_uses : (digest : List ℕ) → uses_in s digest < 2 ^ 32
