use Rattle.std.proofs.Common.{map}
use Rattle.dim_queue.specs.Taking.{taker}
use Rattle.dim_queue.specs.QueueList.{state_of, IsFirstOf, MayTakeFrom}
use Rattle.dim_queue.proofs.queue_list.first_for.Given as goal

abbrev pub invariant-loop-at : goal.invariant-loop-at
invariant-loop-at l = IsFirstOf (MayTakeFrom (taker l.no l.bot) (map state_of l.queues) l.at) l.best
