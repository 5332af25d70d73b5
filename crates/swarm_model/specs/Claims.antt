-- What a claim that may follow the log has found.
use Rattle.std.specs.Prelude.{◌≡◌, ◌≢◌, ◌<◌, ◌≤◌, ◌⊎◌, ℕ, List, [], ◌∷◌, IsTrue, Option, Some, None, IfSome, MatchOption}
use Rattle.std.specs.List.{All, filter_map}
use Rattle.dimensions.specs.Matching.{matches}
use Rattle.swarm_model.specs.Types.{Slice, PoolSettings, Pending, Attempt, Retried, TaskRow, BotRow, PoolState, Entry}
use Rattle.swarm_model.specs.declared.entry.EntryKind.TheVariants as kind
use Rattle.swarm_model.specs.Finding.{has_state, task_of, bot_of}
use Rattle.swarm_model.specs.Slices.{is_fit, current_slice, waits_for}
use Rattle.swarm_model.specs.Deadlines.{deadlines}
use Rattle.swarm_model.specs.Effects.{opening}
use Rattle.swarm_model.specs.History.{replay, IsCaused, MayFollow}
use Rattle.swarm_model.specs.Soundness.{runner, IsSoundRetried, IsRightTry}
use Rattle.swarm_model.specs.Verdicts.{claimant}

-- the task has the lower priority number, or the same one and no higher number
abbrev pub ComesFirst : TaskRow → TaskRow → Type 0
ComesFirst a b = (a.request.priority < b.request.priority) ⊎ ((a.request.priority ≡ b.request.priority) × (a.no ≤ b.no))

-- the bots that claimed the task, in the order of their claims
abbrev pub claimants : ℕ → List Entry → List ℕ
claimants t log = filter_map (λ entry. claimant t entry.kind) log

-- the bots of a task's runs, in their order
abbrev pub bots_in : Option Retried → Option Attempt → List ℕ
bots_in None None = []
bots_in None (Some attempt) = attempt.bot ∷ []
bots_in (Some lost) None = lost.attempt.bot ∷ []
bots_in (Some lost) (Some attempt) = lost.attempt.bot ∷ attempt.bot ∷ []

abbrev pub bots_of : TaskRow → List ℕ
bots_of task = bots_in task.retried task.attempt

-- The runs of a task are those of the bots that claimed it, in the order of their claims. One that was
-- lost is tried again only where the pool does so, its slice is idempotent, it was the first and was not
-- asked to stop; the one that follows is of another bot.
pub record HasRightRuns (s : PoolState) (log : List Entry) (task : TaskRow) : Type 0 where
  pub bots : claimants task.no log ≡ bots_of task
  pub retried : IfSome task.retried (IsSoundRetried s task.request.task_slices)
  pub tries : IfSome task.attempt (IsRightTry task.retried)

-- so it is for each task of a pool that a log led to
abbrev pub RunsAreRight : Type 0
RunsAreRight =
    (settings : PoolSettings) (log : List Entry) → IsCaused (opening settings) log
    → All (HasRightRuns (replay (opening settings) log) log) (replay (opening settings) log).tasks

-- Bot b may begin task t after the log, at this moment: the task was never claimed, or just once, by
-- another bot, whose run is tried again; and no deadline has come. The bot may take work, and runs
-- nothing. The task waits, at a slice that the bot matches, and comes first among the tasks that wait
-- for such a bot and are not kept from it.
pub record IsRightClaim (s : PoolState) (log : List Entry) (moment b t : ℕ) : Type 0 where
  pub nothing_due : All (λ d. moment < d.moment) (deadlines s)
  pub bot : BotRow
  pub is_bot : bot_of s b ≡ Some bot
  pub fit : IsTrue (is_fit bot)
  pub idle : All (λ task. runner task ≢ Some b) s.tasks
  pub task : TaskRow
  pub is_task : task_of s t ≡ Some task
  pub earlier : MatchOption task.retried (claimants t log ≡ []) (λ lost. (claimants t log ≡ lost.attempt.bot ∷ []) × (lost.attempt.bot ≢ b))
  pub pending : IsTrue (has_state Pending task)
  pub slice : Slice
  pub is_slice : current_slice task ≡ Some slice
  pub matches : IsTrue (matches bot.dims slice.properties.dimensions)
  pub foremost : All (λ other. IsTrue (waits_for b bot.dims other) → ComesFirst task other) s.tasks

-- each claim is right
abbrev pub ClaimsAreRight : Type 0
ClaimsAreRight =
    (settings : PoolSettings) (log : List Entry) (entry : Entry) (b t : ℕ) (claim : List ℕ) → IsCaused (opening settings) log
    → MayFollow (replay (opening settings) log) entry → entry.kind ≡ kind.Claim b t claim
    → IsRightClaim (replay (opening settings) log) log entry.moment b t
