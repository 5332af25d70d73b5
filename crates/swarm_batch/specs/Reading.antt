-- What is read of a file of tasks.
use Rattle.std.specs.Prelude.{◌≡◌, ⊤, ℕ, nat_lt, ◌==◌, ◌||◌, List, length, Option, Some, None, Result, Ok, Err, if◌then◌else◌}
use Rattle.swarm_batch.specs.declared.faults.BatchRule.{BatchRule}
use Rattle.swarm_batch.specs.declared.faults.BatchRule.TheVariants as rule
use Rattle.swarm_batch.specs.declared.faults.BatchFault.{BatchFault}
use Rattle.swarm_batch.specs.declared.faults.BatchFault.TheVariants as fault
use Rattle.swarm_batch.specs.declared.lines.Cut.{Cut}
use Rattle.swarm_batch.specs.Lines.{IsCut}
use Rattle.swarm_batch.specs.Broken.{first_broken, or_in}

-- a file of too many bytes, whose last line doesn't end, with no line, or with too many
abbrev pub count_rule : ℕ → Cut → Option BatchRule
count_rule size cut =
    if nat_lt 1048576 size || (nat_lt 0 (length cut.rest) || (length cut.lines == 0 || nat_lt 4096 (length cut.lines)))
    then Some rule.Count else None

-- the first rule that a file breaks
abbrev pub file_rule : ℕ → Cut → Option (ℕ × BatchRule)
file_rule size cut = or_in (count_rule size cut) 0 (first_broken 1 cut.lines)

-- a file breaks a rule at a line
abbrev pub BreaksFile : List ℕ → ℕ → BatchRule → Type 0
BreaksFile text line rule = (cut : Cut) × IsCut text cut × (file_rule (length text) cut ≡ Some (line, rule))

-- the lines of the file, which breaks no rule, or the first line that breaks one
abbrev pub IsRead : List ℕ → Result Cut BatchFault → Type 0
IsRead text (Ok cut) = IsCut text cut × (file_rule (length text) cut ≡ None)
IsRead text (Err fault.Memory) = ⊤
IsRead text (Err (fault.Broken line rule)) = BreaksFile text line rule
