use Rattle.std.proofs.Common.{arith}
use Rattle.std.proofs.lemmas.Grind.{common_steps}
use Rattle.dim_queue.proofs.task_order.goes_first.Goals as goal

pub returns-then-one-other : goal.returns-then-one-other
returns-then-one-other c = grind (arith, common_steps)

pub returns-else-one-other-2 : goal.returns-else-one-other-2
returns-else-one-other-2 c = grind (arith, common_steps)
