-- The lines of the rows before this place are added.
use Rattle.std.proofs.Common.{take}
use Rattle.base_lines.specs.Reading.{AddsLines}
use Rattle.base_lines.proofs.base.add_lines.Given as goal

abbrev pub invariant-loop-place : goal.invariant-loop-place
invariant-loop-place g l =
    AddsLines g.R.BaseLine.told (take l.place (g.R.MachineRow.rows (g.M.Machine.kept l.machine).pool)) l.initial.lines.items l.lines.items
