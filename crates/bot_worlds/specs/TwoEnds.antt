-- Whatever is lost, repeated or reordered between a bot and its pool: what the pool shows of the bot's runs, and how often
-- their commands were started.
use Rattle.std.specs.Prelude.{◌≡◌, ◌≢◌, ◌⊎◌, ℕ, ◌≤◌, ◌<◌, ◌^◌, List, [], length, Some, None, IfSome, slice_get}
use Rattle.std.specs.List.{All, AllPairs}
use Rattle.bot_worlds.specs.Types.{BotLimits, BotDims, Attempt, Entry, TaskRow}
use Rattle.swarm_model.specs.BaseRules.{IsBase}
use Rattle.swarm_model.specs.Bases.{Base}
use Rattle.swarm_model.specs.Finding.{bot_named, task_of}
use Rattle.swarm_model.specs.History.{IsLegal, replay}
use Rattle.log_laws.specs.Runs.{IsRunOf}
use Rattle.bot_worlds.specs.declared.child_run.ChildRun.{ChildRun}
use Rattle.bot_worlds.specs.declared.turn.Turn.{Turn}
use Rattle.bot_worlds.specs.Invariant.{HasClaim, IsNumber, IsPiece, log_of, rows_by}
use Rattle.bot_worlds.specs.Turns.{Played}
use Rattle.bot_worlds.specs.World.{Begins, WorldState}

-- ---- the output

-- a run that the bot was told of is the one of this claim, task and try, was started so often, and its command wrote this
pub record IsRunThatWrote (run : ChildRun) (claim : List ℕ) (t n started : ℕ) (wrote : List ℕ) : Type 0 where
  pub claim_is : run.claim ≡ claim
  pub task_is : run.task ≡ t
  pub try_is : run.try_no ≡ n
  pub started_is : run.started ≡ started
  pub wrote_is : run.wrote ≡ wrote

-- the bot was never told of a run of this task and try
abbrev pub IsUntold : List ChildRun → ℕ → ℕ → Type 0
IsUntold runs t n = All (λ run. run.task ≡ t → run.try_no ≢ n) runs

-- what the command of a claim wrote, and how often it was started: nothing, where the bot was never told of the run
abbrev pub Wrote : List ChildRun → List ℕ → ℕ → ℕ → ℕ → List ℕ → Type 0
Wrote runs claim t n started wrote =
    ((i : ℕ) × (run : ChildRun) × (slice_get runs i ≡ Some run) × IsRunThatWrote run claim t n started wrote)
    ⊎ (IsUntold runs t n × (started ≡ 0) × (wrote ≡ []))

-- The output that is kept of a run is a prefix of what its command wrote, empty where it was never started, and all of it
-- where the last report drops nothing.
pub record IsPrefix (a : Attempt) (started : ℕ) (wrote : List ℕ) : Type 0 where
  pub pieces : All (IsPiece wrote) a.chunks
  pub within : a.length ≤ length wrote
  pub empty : started ≡ 0 → a.length ≡ 0
  pub whole : IfSome a.last (λ last. last.dropped ≡ 0 → a.length ≡ length wrote)

-- the task has this run, and it is the bot's
pub record IsRunBy (w : WorldState) (t : ℕ) (a : Attempt) : Type 0 where
  pub task : TaskRow
  pub there : task_of (rows_by (log_of w)) t ≡ Some task
  pub run : IsRunOf task a
  pub number : IsNumber (log_of w) a.bot

-- so it is with each run of the bot, also with one that was lost and tried again
abbrev pub OutputIsPrefix : WorldState → Type 0
OutputIsPrefix w =
    (t : ℕ) (a : Attempt) → IsRunBy w t a →
    (started : ℕ) × (wrote : List ℕ) × Wrote w.runs a.claim t a.try_no started wrote × IsPrefix a started wrote

-- ---- the starts

-- no two runs are of one claim; the command of each is started at most once, and the log has its claim
pub record StartsOnce (w : WorldState) : Type 0 where
  pub apart : AllPairs (λ a b. a.claim ≢ b.claim) w.runs
  pub once : All (λ run. run.started ≤ 1) w.runs
  pub claimed : All (λ run. HasClaim (log_of w) run.task run.try_no run.claim) w.runs

-- ---- over all turns

-- the log is legal from its base, and no bot has the name
pub record IsStart (start : Base) (log : List Entry) (name : List ℕ) : Type 0 where
  pub base : IsBase start.rows.settings start.count start.rows
  pub legal : IsLegal start.rows log
  pub unknown : bot_named (replay start.rows log) name ≡ None

-- over every list of turns
abbrev pub TwoEndsAgree : Type 0
TwoEndsAgree =
    (limits : BotLimits) (moment : ℕ) (start : Base) (log : List Entry) (name : List ℕ) (dims : BotDims) (turns : List Turn) (w v : WorldState)
    → limits.steps < 2 ^ 32 → IsStart start log name → Begins limits moment start log name dims w → Played w turns v
    → OutputIsPrefix v × StartsOnce v
