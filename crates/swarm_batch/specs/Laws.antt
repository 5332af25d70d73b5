-- What holds of all batches.
use Rattle.std.specs.Prelude.{◌≡◌, ◌⊎◌, ◌<◌, ◌≤◌, ◌^◌, ℕ, true, List, length, Some, None, Result, Ok, Err}
use Rattle.task_props.specs.FieldRules.{uuid_rule}
use Rattle.swarm_batch.specs.declared.faults.BatchFault.{BatchFault}
use Rattle.swarm_batch.specs.declared.faults.BatchFault.TheVariants as fault
use Rattle.swarm_batch.specs.declared.mark.Mark.{Mark}
use Rattle.swarm_batch.specs.Marks.{progress_text}
use Rattle.swarm_batch.specs.Names.{is_batch_name}
use Rattle.swarm_batch.specs.Batches.{BatchValue, AreMarks, uuid_of}
use Rattle.swarm_batch.specs.Progress.{TellsProgress}
use Rattle.swarm_batch.specs.Reopened.{IsBatchOf, IsBatchRead}

-- ---- the uuids of lines

-- the uuid of a line of a batch is in order
abbrev pub UuidsAreInOrder : Type 0
UuidsAreInOrder = (name : List ℕ) (line : ℕ) → is_batch_name name ≡ true → line ≤ 4096 → uuid_rule (uuid_of name line) ≡ None

-- other names or other lines, other uuids
abbrev pub UuidsAreApart : Type 0
UuidsAreApart = (name other : List ℕ) (line n : ℕ) → line < 2 ^ 64 → n < 2 ^ 64 → uuid_of name line ≡ uuid_of other n → (name ≡ other) × (line ≡ n)

-- ---- what is written is read

abbrev pub IsOrMemory : {A : Type 0} → A → Result A BatchFault → Type 0
IsOrMemory a result = (result ≡ Ok a) ⊎ (result ≡ Err fault.Memory)

-- the progress of marks tells these marks
abbrev pub ProgressIsRead : Type 0
ProgressIsRead =
    (lines : ℕ) (head : List ℕ) (marks : List Mark) (result : Result (List Mark) BatchFault) → lines ≤ 4096 → AreMarks lines marks
    → TellsProgress lines head (progress_text head marks) result → IsOrMemory marks result

-- a file and the progress of its batch are read as that batch
abbrev pub BatchIsReadAgain : Type 0
BatchIsReadAgain =
    (text name : List ℕ) (b : BatchValue) (result : Result BatchValue BatchFault) → IsBatchOf text name b → AreMarks (length b.lines) b.marks
    → IsBatchRead text name (Some (progress_text b.head b.marks)) result → IsOrMemory b result
