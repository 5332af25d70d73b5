use Rattle.std.proofs.Common.{arith}
use Rattle.std.proofs.lemmas.Grind.{common_steps}
use Rattle.region.proofs.holes.take_front.Goals as goal

pub returns-then-size-units-clause-taken : goal.returns-then-size-units-clause-taken
returns-then-size-units-clause-taken c = grind (arith, common_steps)
