-- What the log tells of each run.
use Rattle.std.specs.Prelude.{◌≡◌, ◌⊎◌, ℕ, ◌+◌, ◌≤◌, List, Option, Some, None, IfSome}
use Rattle.std.specs.List.{Contains}
use Rattle.std.specs.Option.{option_map}
use Rattle.log_laws.specs.Types.{Attempt, Chunk, Last, Retried, TaskRow, PoolState, Entry, EntryKind}
use Rattle.swarm_model.specs.declared.entry.EntryKind.TheVariants as kind
use Rattle.swarm_model.specs.BaseRules.{AreBaseRows}
use Rattle.swarm_model.specs.Finding.{bot_of}
use Rattle.swarm_model.specs.History.{replay, IsCaused}
use Rattle.swarm_model.specs.Output.{AreInRow}
use Rattle.swarm_model.specs.Soundness.{IsSound}

-- the log has an entry of this kind
pub record HasEntry (log : List Entry) (kind : EntryKind) : Type 0 where
  pub entry : Entry
  pub among : Contains log entry
  pub is : entry.kind ≡ kind

-- the run is the task's, or the one that was lost and is tried again
abbrev pub IsRunOf : TaskRow → Attempt → Type 0
IsRunOf task run = (task.attempt ≡ Some run) ⊎ (option_map (λ (lost : Retried). lost.attempt) task.retried ≡ Some run)

-- What the log tells of a run of task t. It has the claim, and no other of this task by this bot. The
-- chunks that are kept follow each other, and the log has an update for each; it has the one that
-- ended the run. All updates of this task by this bot are of this try, and each chunk that they bring
-- lies within the output that is kept.
pub record TellsRun (log : List Entry) (t : ℕ) (run : Attempt) : Type 0 where
  pub claimed : HasEntry log (kind.Claim run.bot t run.claim)
  pub only : (claim : List ℕ) → HasEntry log (kind.Claim run.bot t claim) → claim ≡ run.claim
  pub chunks : (chunk : Chunk) → Contains run.chunks chunk → (last : Option Last) × HasEntry log (kind.Update run.bot t run.try_no (Some chunk) last)
  pub last : IfSome run.last (λ report. HasEntry log (kind.Update run.bot t run.try_no run.last_chunk (Some report)))
  pub tried : (try_no : ℕ) (chunk : Option Chunk) (last : Option Last) → HasEntry log (kind.Update run.bot t try_no chunk last) → try_no ≡ run.try_no
  pub reached : (chunk : Chunk) (last : Option Last) → HasEntry log (kind.Update run.bot t run.try_no (Some chunk) last) → chunk.start + chunk.size ≤ run.length
  pub in_row : AreInRow 0 run.chunks run.length

-- the log tells each run of a bot that the base has not
abbrev pub AttemptsAreTold : Type 0
AttemptsAreTold =
    (base : PoolState) (log : List Entry) (task : TaskRow) (run : Attempt) → IsSound base → AreBaseRows base → IsCaused base log
    → Contains (replay base log).tasks task → IsRunOf task run → bot_of base run.bot ≡ None → TellsRun log task.no run
