use Rattle.std.proofs.Common.{arith}
use Rattle.std.proofs.lemmas.Grind.{common_steps}
use Rattle.dim_queue.proofs.queue_list.find_or_assign.Goals as goal

pub queue_for-requires-clause-lack : goal.queue_for-requires-clause-lack
queue_for-requires-clause-lack c = grind (arith, common_steps)
