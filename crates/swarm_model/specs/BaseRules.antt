-- The rows from which a pool may open.
use Rattle.std.specs.Prelude.{◌≡◌, ℕ, ◌≤◌, ◌<◌, ◌^◌, false, IsTrue, List, length, None, IfSome, is_some}
use Rattle.std.specs.List.{All, AllPairs}
use Rattle.std.specs.Option.{option_map_or}
use Rattle.swarm_model.specs.Types.{Completed, Attempt, PoolSettings, TaskRow, PoolState}
use Rattle.swarm_model.specs.declared.request.Request.TheVariants as ask
use Rattle.swarm_model.specs.Finding.{task_of, blob_of}
use Rattle.swarm_model.specs.Fits.{fits, fits_chunk, fits_last, is_name}
use Rattle.swarm_model.specs.Reuse.{ended_well}
use Rattle.swarm_model.specs.Uses.{is_used}
use Rattle.swarm_model.specs.Soundness.{IsSound}
use Rattle.swarm_model.specs.StateWeight.{state_weight}

-- ---- what the rows keep of requests and reports

-- a run was claimed by a bot of the pool, under a name and no later than now, and what it reported is what a
-- report may hold; its last chunk came with its last report
pub record IsKeptAttempt (now bots : ℕ) (attempt : Attempt) : Type 0 where
  pub bot_from : 1 ≤ attempt.bot
  pub bot_to : attempt.bot ≤ bots
  pub claim : IsTrue (is_name attempt.claim)
  pub begun : attempt.begun ≤ now
  pub chunks : All (λ chunk. IsTrue (fits_chunk chunk)) attempt.chunks
  pub last : IfSome attempt.last (λ report. IsTrue (fits_last report))
  pub tail : IfSome attempt.last_chunk (λ chunk. IsTrue (fits_chunk chunk))
  pub ended : IfSome attempt.last_chunk (λ chunk. IsTrue (is_some attempt.last))

-- the pool may be asked for the task, which was created and ended no later than now; so it is with its runs
pub record IsKeptTask (settings : PoolSettings) (now bots : ℕ) (task : TaskRow) : Type 0 where
  pub fits : IsTrue (fits settings (ask.New task.request))
  pub created : task.created ≤ now
  pub ended : IfSome task.ended (λ moment. moment ≤ now)
  pub attempt : IfSome task.attempt (IsKeptAttempt now bots)
  pub retried : IfSome task.retried (λ lost. IsKeptAttempt now bots lost.attempt)

-- ---- what the rows say of each other

-- rows of lower numbers were created no later
abbrev pub AreCreatedInOrder : List TaskRow → Type 0
AreCreatedInOrder tasks = AllPairs (λ a b. a.created ≤ b.created) tasks

-- the task completed without a run of its own, and the one of the number ran and reported 0
pub record HasOutcome (s : PoolState) (task : TaskRow) (number : ℕ) : Type 0 where
  pub completed : task.state ≡ Completed
  pub no_run : task.attempt ≡ None
  pub source : IsTrue (option_map_or ended_well (task_of s number) false)

abbrev pub HaveOutcomes : PoolState → Type 0
HaveOutcomes s = All (λ task. IfSome task.source (HasOutcome s task)) s.tasks

-- what the waiting and running tasks need is there
abbrev pub HasWhatIsUsed : PoolState → Type 0
HasWhatIsUsed s = (digest : List ℕ) → IsTrue (is_used s digest) → IsTrue (is_some (blob_of s digest))

-- ---- a base

-- what holds of the rows beside soundness
pub record AreBaseRows (s : PoolState) : Type 0 where
  pub tasks : All (IsKeptTask s.settings s.last (length s.bots)) s.tasks
  pub order : AreCreatedInOrder s.tasks
  pub outcomes : HaveOutcomes s
  pub used : HasWhatIsUsed s
  pub blobs : All (λ blob. 1 ≤ blob.no) s.blobs
  pub rising : AllPairs (λ a b. a.no < b.no) s.blobs

-- a pool with these settings may open from the rows, so many entries after its first one
pub record IsBase (settings : PoolSettings) (count : ℕ) (base : PoolState) : Type 0 where
  pub own : base.settings ≡ settings
  pub sound : IsSound base
  pub rows : AreBaseRows base
  pub light : state_weight base ≤ settings.most_weight
  pub placed : base.placed ≤ count
  pub few : count ≤ 2 ^ 31
