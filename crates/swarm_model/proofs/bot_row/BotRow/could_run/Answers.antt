use Rattle.std.proofs.Common.{arith}
use Rattle.std.proofs.lemmas.Grind.{common_steps}
use Rattle.swarm_model.proofs.bot_row.BotRow.could_run.Goals as goal

pub returns-then-is_fit : goal.returns-then-is_fit
returns-then-is_fit c = grind (arith, common_steps)
