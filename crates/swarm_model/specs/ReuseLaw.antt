-- Whose outcome a new task takes, and what holds of a task that took one.
use Rattle.std.specs.Prelude.{◌≡◌, ℕ, ◌<◌, ◌≤◌, IsTrue, IsFalse, List, take, Some, None, MatchOption, slice_get}
use Rattle.std.specs.List.{All, Contains}
use Rattle.task_props.specs.Canonical.{hash}
use Rattle.swarm_model.specs.Types.{Slice, Completed, PoolSettings, TaskRow, PoolState, Reuse, Entry}
use Rattle.swarm_model.specs.Finding.{task_of}
use Rattle.swarm_model.specs.Numbers.{AreNumbered}
use Rattle.swarm_model.specs.Slices.{current_slice}
use Rattle.swarm_model.specs.Reuse.{ended_well, has_hash, is_source, newest_source, source_for, reuse}
use Rattle.swarm_model.specs.Effects.{opening, no_of_task}
use Rattle.swarm_model.specs.History.{replay, IsCaused}

-- the task completed without a run; the task of that number is an earlier one, which ran and reported 0,
-- and the slices that the two have come to may stand for each other and are of one hash
pub record HasSource (s : PoolState) (task : TaskRow) (number : ℕ) : Type 0 where
  pub completed : task.state ≡ Completed
  pub no_run : task.attempt ≡ None
  pub source : TaskRow
  pub there : task_of s number ≡ Some source
  pub earlier : number < task.no
  pub ended : IsTrue (ended_well source)
  pub own : Slice
  pub comes_to : current_slice task ≡ Some own
  pub idempotent : IsTrue own.properties.idempotent
  pub ran : Slice
  pub came_to : current_slice source ≡ Some ran
  pub alike : IsTrue (has_hash (hash own.properties) ran)

-- so it is with every task that took an outcome
abbrev pub OutcomesAreTaken : Type 0
OutcomesAreTaken =
    (settings : PoolSettings) (log : List Entry) (t number : ℕ) (task : TaskRow) → IsCaused (opening settings) log
    → task_of (replay (opening settings) log) t ≡ Some task → task.source ≡ Some number → HasSource (replay (opening settings) log) task number

-- a task whose outcome a slice with this hash may take at the moment, and no such task has a greater number
pub record IsNewestSource (s : PoolState) (moment : ℕ) (digest : List ℕ) (source : TaskRow) : Type 0 where
  pub of_pool : Contains s.tasks source
  pub is : IsTrue (is_source s.settings.reuse_age_secs moment digest source)
  pub newest : All (λ task. IsTrue (is_source s.settings.reuse_age_secs moment digest task) → task.no ≤ source.no) s.tasks

-- where tasks are numbered by their places, such a task is found; none is found exactly where there is none
abbrev pub SourceIsNewest : Type 0
SourceIsNewest =
    (s : PoolState) (moment : ℕ) (digest : List ℕ) → AreNumbered no_of_task 1 s.tasks
    → MatchOption (newest_source s moment digest) (All (λ task. IsFalse (is_source s.settings.reuse_age_secs moment digest task)) s.tasks) (IsNewestSource s moment digest)

-- the slice of this place has this source, and no slice before it has one
pub record IsFirstReuse (s : PoolState) (moment : ℕ) (slices : List Slice) (found : Reuse) : Type 0 where
  pub slice : Slice
  pub is_slice : slice_get slices found.slice ≡ Some slice
  pub source : TaskRow
  pub is_source : source_for s moment slice ≡ Some source
  pub is_number : source.no ≡ found.source
  pub none_before : All (λ before. source_for s moment before ≡ None) (take found.slice slices)

-- such a slice takes an outcome; none does exactly where no slice has a source
abbrev pub ReuseIsFirst : Type 0
ReuseIsFirst =
    (s : PoolState) (moment : ℕ) (slices : List Slice)
    → MatchOption (reuse s moment slices) (All (λ slice. source_for s moment slice ≡ None) slices) (IsFirstReuse s moment slices)
