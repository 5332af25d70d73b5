use Rattle.std.proofs.Common.{map}
use Rattle.dim_queue.specs.Taking.{set_with}
use Rattle.dim_queue.specs.QueueList.{state_of, LackSet}
use Rattle.dim_queue.proofs.queue_list.find.Given as goal

abbrev pub invariant-loop-at : goal.invariant-loop-at
invariant-loop-at l = LackSet (set_with l.dims l.but) (map state_of l.queues) l.at
