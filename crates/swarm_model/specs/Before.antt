-- The entries for which a row of a base stands, and what the base and the log since tell.
use Rattle.std.specs.Prelude.{◌≡◌, ℕ, ◌+◌, ◌==◌, Bool, List, [], ◌∷◌, ◌++◌, map, length, count_by, Option, None, Some, IfSome, if◌then◌else◌}
use Rattle.std.specs.Option.{option_map_or}
use Rattle.swarm_model.specs.Types.{TaskState, Pending, Running, Attempt, Retried, TaskRow, PoolState, Entry, EntryKind}
use Rattle.swarm_model.specs.declared.entry.EntryKind.TheVariants as kind
use Rattle.swarm_model.specs.declared.entry.Outcome.TheVariants as outcome
use Rattle.swarm_model.specs.Finding.{is_state, is_final, task_of}
use Rattle.swarm_model.specs.Answers.{entry_at}
use Rattle.swarm_model.specs.Claims.{claimants, bots_of}
use Rattle.swarm_model.specs.History.{states}
use Rattle.swarm_model.specs.Soundness.{IsSoundRetried, IsRightTry}
use Rattle.swarm_model.specs.Verdicts.{numbers, is_new, verdict}

-- the state in which a task was accepted, as far as its row tells: what runs was pending
abbrev pub accepted_in : TaskState → TaskState
accepted_in Running = Pending
accepted_in state = state

-- the slice at which it was accepted: that of the run that is tried again, or else the one that it has come to
abbrev pub accepted_at : ℕ → Option Retried → ℕ
accepted_at slice retried = option_map_or (λ lost. lost.slice) retried slice

-- a run was claimed and lost, and the task came to its slice, where that is another
abbrev pub lost_before : ℕ → ℕ → Option Retried → List EntryKind
lost_before t slice None = []
lost_before t slice (Some lost) =
    kind.Claim lost.attempt.bot t lost.attempt.claim
    ∷ kind.Silence t
    ∷ (if slice == lost.slice then [] else kind.Slice t (outcome.Slice slice) ∷ [])

-- a run was claimed, and perhaps asked to stop
abbrev pub run_before : ℕ → Option Attempt → List EntryKind
run_before t None = []
run_before t (Some attempt) = kind.Claim attempt.bot t attempt.claim ∷ (if attempt.kill then kind.Kill t ∷ [] else [])

-- a task that has ended was accepted in its state; of any other its first run was lost, where it is tried again, and its run began
abbrev pub kinds_before : TaskRow → List EntryKind
kinds_before task =
    kind.New task.no task.creator task.request (accepted_in task.state) (accepted_at task.slice task.retried) task.source
    ∷ (if is_final task.state then [] else lost_before task.no task.slice task.retried ++ run_before task.no task.attempt)

abbrev pub entries_of : TaskRow → List Entry
entries_of task = map (entry_at 0 0) (kinds_before task)

-- the entries for which the base's row of a task stands, none where there is no row
abbrev pub before : PoolState → ℕ → List Entry
before base t = option_map_or entries_of (task_of base t) []

-- the state of a task, from the base and the log since
abbrev pub verdict_since : PoolState → List Entry → ℕ → TaskState
verdict_since base log t = verdict base.settings (before base t ++ log) t

-- how many tasks the base has, and were accepted since
abbrev pub accepted_since : PoolState → List Entry → ℕ
accepted_since base log = length base.tasks + count_by is_new log

abbrev pub is_verdict_since : PoolState → List Entry → TaskState → ℕ → Bool
is_verdict_since base log state t = is_state (verdict_since base log t) state

abbrev pub verdicts_since : PoolState → List Entry → TaskState → ℕ
verdicts_since base log state = count_by (is_verdict_since base log state) (numbers 1 (accepted_since base log))

-- how many of these tasks have each state
abbrev pub verdict_tally_since : PoolState → List Entry → List ℕ
verdict_tally_since base log = map (verdicts_since base log) states

-- the bots of the runs that the base has of a task
abbrev pub bots_before : PoolState → ℕ → List ℕ
bots_before base t = option_map_or bots_of (task_of base t) []

-- The runs of a task are those that the base has of it, and those of the bots that claimed it since, in the
-- order of their claims. One that was lost is tried again only where it may be, and by another bot.
pub record HasRightRunsSince (base s : PoolState) (log : List Entry) (task : TaskRow) : Type 0 where
  pub bots : bots_before base task.no ++ claimants task.no log ≡ bots_of task
  pub retried : IfSome task.retried (IsSoundRetried s task.request.task_slices)
  pub tries : IfSome task.attempt (IsRightTry task.retried)
