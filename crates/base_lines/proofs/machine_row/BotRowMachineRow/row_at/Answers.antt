-- The rows are numbered by their places.
use Rattle.std.proofs.Common.{◌∙◌}
use Rattle.base_lines.proofs.MachineRows.{bot_placed}
use Rattle.base_lines.proofs.machine_row.BotRowMachineRow.row_at.Goals as goal

pub returns : goal.returns
returns g c = c.bot.ensures ∙ bot_placed (g.M.Machine.kept c.args.machine.now) c.length-length.ensures.history c.args.place
