use Rattle.std.proofs.Common.{arith}
use Rattle.std.proofs.lemmas.Grind.{common_steps}
use Rattle.swarm_http.proofs.answer.stop_refusal.Goals as goal

pub returns-in-Keeper : goal.returns-in-Keeper
returns-in-Keeper c = grind (arith, common_steps)
