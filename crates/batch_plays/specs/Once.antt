-- Each task of a batch is sent once.
use Rattle.std.specs.Prelude.{◌≡◌, ℕ, ◌-◌, ◌≤◌, List, [], ◌++◌, length, slice_get, Option, Some, None, Ok}
use Rattle.std.specs.List.{count_by}
use Rattle.serde_json.specs.Data.{Data}
use Rattle.batch_plays.specs.Types.{NewTask, Entry, Settings, TaskState}
use Rattle.swarm_model.specs.declared.entry.EntryKind.TheVariants as kind
use Rattle.swarm_model.specs.BaseRules.{IsBase}
use Rattle.swarm_model.specs.Bases.{Base}
use Rattle.swarm_model.specs.History.{IsLegal}
use Rattle.swarm_model.specs.Reuse.{sent}
use Rattle.task_bodies.specs.Tasks.{task_in}
use Rattle.log_laws.specs.Runs.{HasEntry}
use Rattle.log_laws.specs.Sent.{sends}
use Rattle.swarm_batch.specs.declared.mark.Mark.TheVariants as mark
use Rattle.swarm_batch.specs.Batches.{BatchValue, next_line, body_data, uuid_of}
use Rattle.batch_plays.specs.declared.turn.BatchTurn.{BatchTurn}
use Rattle.batch_plays.specs.Turns.{Played}
use Rattle.batch_plays.specs.World.{World, new_files}

-- the line is one of the batch, and its body, under the line's uuid, is that of the task
pub record IsTaskOf (b : BatchValue) (line : ℕ) (task : NewTask) : Type 0 where
  pub from : 1 ≤ line
  pub to : line ≤ length b.lines
  pub value : Data
  pub body : body_data b line ≡ Some value
  pub reads : task_in value ≡ Ok task
  pub uuid : task.request_uuid ≡ uuid_of b.name line

-- the log accepts the task of the caller, under this number
pub record Accepts (who : List ℕ) (log : List Entry) (t : ℕ) (task : NewTask) : Type 0 where
  pub state : TaskState
  pub slice : ℕ
  pub source : Option ℕ
  pub entry : HasEntry log (kind.New t who task state slice source)

-- of the line's uuid the log accepts exactly one task of the caller, which is the line's, under this number
pub record IsAccepted (who : List ℕ) (b : BatchValue) (log : List Entry) (line t : ℕ) : Type 0 where
  pub once : count_by (sends who (uuid_of b.name line)) log ≡ 1
  pub task : NewTask
  pub accepts : Accepts who log t task
  pub is_line : IsTaskOf b line task

-- no line is done, and neither where the log begins nor in the log is there a task of the caller under the uuid of a line
pub record IsUnsent (who : List ℕ) (start : Base) (log : List Entry) (b : BatchValue) : Type 0 where
  pub none_done : b.marks ≡ []
  pub rows : (line : ℕ) → 1 ≤ line → line ≤ length b.lines → sent start.rows who (uuid_of b.name line) ≡ None
  pub entries : (line : ℕ) → 1 ≤ line → line ≤ length b.lines → count_by (sends who (uuid_of b.name line)) log ≡ 0

-- What holds of the tasks of a batch once turns have made of the log `old` the log `new`, and of the batch `b` the batch `after`:
-- under the uuid of a line there is at most one task of the caller; for each line that is marked with an id there is exactly
-- one, of this number in the only pool, and it is the line's; each task of the caller that was added is that of a line;
-- and where no line comes next, every line is done.
pub record AreSentOnce (who : List ℕ) (old new : List Entry) (b after : BatchValue) : Type 0 where
  pub at_most : (line : ℕ) → count_by (sends who (uuid_of b.name line)) new ≤ 1
  pub marked : (line place t : ℕ) → 1 ≤ line → slice_get after.marks (line - 1) ≡ Some (mark.Task place t) → (place ≡ 0) × IsAccepted who b new line t
  pub added : (more : List Entry) (t : ℕ) (task : NewTask) → new ≡ old ++ more → Accepts who more t task → (line : ℕ) × IsTaskOf b line task
  pub all_done : next_line after ≡ None → length after.marks ≡ length b.lines

-- over every list of turns, from any legal log and a batch of which nothing was sent
abbrev pub EachOnce : Type 0
EachOnce =
    (settings : Settings) (who : List ℕ) (old new : World) (turns : List BatchTurn) (b : BatchValue)
    → IsBase old.start.rows.settings old.start.count old.start.rows → IsLegal old.start.rows old.log → length b.lines ≤ 4096
    → old.files ≡ new_files b → IsUnsent who old.start old.log b → Played settings who old turns new
    → AreSentOnce who old.log new.log b new.files.batch
