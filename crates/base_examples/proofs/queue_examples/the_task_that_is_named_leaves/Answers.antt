use Rattle.std.proofs.Common.{refl, arith}
use Rattle.base_examples.specs.QueueExamples.{waiting}
use Rattle.base_examples.proofs.queue_examples.the_task_that_is_named_leaves.Goals as goal

-- the task would have to be another one than itself
pub returns : goal.returns
returns c = λ r. ((r.each (waiting 1 1)).0 (0, omega arith, refl)).1 refl
