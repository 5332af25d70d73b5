use Rattle.std.proofs.Common.{map}
use Rattle.dim_queue.specs.Plain.{HaveTasks}
use Rattle.dim_queue.specs.QueueList.{state_of}
use Rattle.dim_queue.proofs.queue_list.find_empty.Given as goal

abbrev pub invariant-loop-at : goal.invariant-loop-at
invariant-loop-at l = HaveTasks (map state_of l.queues) l.at
