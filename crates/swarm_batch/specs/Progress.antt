-- What is read of a progress.
use Rattle.std.specs.Prelude.{◌≡◌, ◌≢◌, ⊤, ℕ, ◌+◌, ◌≤◌, ◌<◌, List, [], ◌∷◌, ◌++◌, length, codes, true, Option, Some, None, Result, Ok, Err}
use Rattle.swarm_batch.specs.declared.faults.BatchRule.TheVariants as rule
use Rattle.swarm_batch.specs.declared.faults.BatchFault.{BatchFault}
use Rattle.swarm_batch.specs.declared.faults.BatchFault.TheVariants as fault
use Rattle.swarm_batch.specs.declared.mark.Mark.{Mark}
use Rattle.swarm_batch.specs.Marks.{is_mark, mark_line, mark_lines, progress_text}
use Rattle.swarm_batch.specs.Lines.{ended}
use Rattle.swarm_batch.specs.Batches.{AreMarks}

-- the progress of another file or of another batch: its first line isn't this one
abbrev pub IsOther : List ℕ → List ℕ → Type 0
IsOther head text = (rest : List ℕ) → text ≢ head ++ (codes "\n" ++ rest)

-- no mark of a line begins here
abbrev pub HasNoMark : ℕ → List ℕ → Type 0
HasNoMark line rest = (m : Mark) (more : List ℕ) → is_mark m ≡ true → rest ≢ mark_line line m ++ more

-- what stands behind the first line goes wrong at a line, counted as the lines of the file are: before it are marks
-- as they are written; there something is left that begins with no mark of this line, or there is no such line
pub record GoesWrong (lines : ℕ) (body : List ℕ) (line : ℕ) : Type 0 where
  pub marks : List Mark
  pub rest : List ℕ
  pub before : AreMarks lines marks
  pub next : line ≡ length marks + 1
  pub whole : body ≡ mark_lines 1 marks ++ rest
  pub left : rest ≢ []
  pub wrong : line ≤ lines → HasNoMark line rest

-- the marks of so many lines that stand behind the first line
abbrev pub TellsMarks : ℕ → List ℕ → Result (List Mark) BatchFault → Type 0
TellsMarks lines body (Ok marks) = AreMarks lines marks × (body ≡ mark_lines 1 marks)
TellsMarks lines body (Err fault.Memory) = ⊤
TellsMarks lines body (Err (fault.Broken line rule.Progress)) = GoesWrong lines body line
TellsMarks lines body (Err (fault.Broken line other)) = ⊥

-- what a progress tells of so many lines, under the line that names the file and the batch
abbrev pub TellsProgress : ℕ → List ℕ → List ℕ → Result (List Mark) BatchFault → Type 0
TellsProgress lines head text (Ok marks) = AreMarks lines marks × (text ≡ progress_text head marks)
TellsProgress lines head text (Err fault.Memory) = ⊤
TellsProgress lines head text (Err (fault.Broken line rule.Changed)) = (line ≡ 0) × IsOther head text
TellsProgress lines head text (Err (fault.Broken line rule.Progress)) = (body : List ℕ) × (text ≡ head ++ (codes "\n" ++ body)) × GoesWrong lines body line
TellsProgress lines head text (Err (fault.Broken line other)) = ⊥

-- the same; where there is no progress, no line is done
abbrev pub TellsDone : ℕ → List ℕ → Option (List ℕ) → Result (List Mark) BatchFault → Type 0
TellsDone lines head None result = result ≡ Ok []
TellsDone lines head (Some text) result = TellsProgress lines head text result

-- ---- one line more

-- a line of a progress tells the mark of the line that comes next, or none
abbrev pub AddsMark : ℕ → List ℕ → List Mark → List Mark → Result ⊤ BatchFault → Type 0
AddsMark lines text old new (Ok u) =
    (length old < lines) × ((m : Mark) × (is_mark m ≡ true) × (mark_line (length old + 1) m ≡ ended text) × (new ≡ old ++ m ∷ []))
AddsMark lines text old new (Err fault.Memory) = ⊤
AddsMark lines text old new (Err (fault.Broken line rule.Progress)) =
    (line ≡ length old + 1) × (line ≤ lines → (m : Mark) → is_mark m ≡ true → mark_line line m ≢ ended text)
AddsMark lines text old new (Err (fault.Broken line other)) = ⊥
