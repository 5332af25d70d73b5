-- The rows are numbered by their places.
use Rattle.std.proofs.Common.{◌∙◌}
use Rattle.base_lines.proofs.MachineRows.{task_placed}
use Rattle.base_lines.proofs.machine_row.TaskRowMachineRow.row_at.Goals as goal

pub returns : goal.returns
returns g c = c.task_uncounted.ensures ∙ task_placed (g.M.Machine.kept c.args.machine.now) c.length-length.ensures.history c.args.place
