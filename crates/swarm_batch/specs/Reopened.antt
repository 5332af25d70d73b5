-- What is read of a file and of its progress together.
use Rattle.std.specs.Prelude.{◌≡◌, ◌⊎◌, ⊤, ℕ, ◌≤◌, List, length, Option, None, Result, Ok, Err}
use Rattle.std.specs.List.{All, flat_map}
use Rattle.swarm_batch.specs.declared.faults.BatchFault.{BatchFault}
use Rattle.swarm_batch.specs.declared.faults.BatchFault.TheVariants as fault
use Rattle.swarm_batch.specs.Lines.{ended, IsOneLine}
use Rattle.swarm_batch.specs.Broken.{first_broken}
use Rattle.swarm_batch.specs.Reading.{BreaksFile}
use Rattle.swarm_batch.specs.Names.{batch_head}
use Rattle.swarm_batch.specs.Batches.{BatchValue}
use Rattle.swarm_batch.specs.Progress.{TellsDone}

-- the batch of a file under a name: its lines, of which none breaks a rule
pub record IsBatchOf (text name : List ℕ) (b : BatchValue) : Type 0 where
  pub named : b.name ≡ name
  pub head : b.head ≡ batch_head text name
  pub whole : text ≡ flat_map ended b.lines
  pub apart : All IsOneLine b.lines
  pub size : length text ≤ 1048576
  pub some : 1 ≤ length b.lines
  pub few : length b.lines ≤ 4096
  pub unbroken : first_broken 1 b.lines ≡ None

-- the batch, with the marks that the progress tells, or the first rule that is broken: of the file, and then of its progress
abbrev pub IsBatchRead : List ℕ → List ℕ → Option (List ℕ) → Result BatchValue BatchFault → Type 0
IsBatchRead text name progress (Ok b) = IsBatchOf text name b × TellsDone (length b.lines) b.head progress (Ok b.marks)
IsBatchRead text name progress (Err fault.Memory) = ⊤
IsBatchRead text name progress (Err (fault.Broken line rule)) =
    BreaksFile text line rule ⊎ ((b : BatchValue) × IsBatchOf text name b × TellsDone (length b.lines) b.head progress (Err (fault.Broken line rule)))

-- a batch takes the marks that a progress tells; at a fault it stays as it was
abbrev pub IsReadAgain : Option (List ℕ) → BatchValue → BatchValue → Result ⊤ BatchFault → Type 0
IsReadAgain done old new (Ok u) = TellsDone (length old.lines) old.head done (Ok new.marks) × (new ≡ record old { marks = new.marks })
IsReadAgain done old new (Err e) = TellsDone (length old.lines) old.head done (Err e) × (new ≡ old)
