use Rattle.std.proofs.Common.{arith}
use Rattle.std.proofs.lemmas.Grind.{common_steps}
use Rattle.swarm_machine.proofs.sources.ends_well.Goals as goal

pub returns-then-not-last-2 : goal.returns-then-not-last-2
returns-then-not-last-2 c = grind (arith, common_steps)
