-- What a queue of deadlines keeps.
use Rattle.block_list.specs.Rising.{IsRising}
use Rattle.swarm_model.specs.Deadlines.{is_earlier}
use Rattle.pool_index.specs.declared.deadline_queue.DeadlineQueue.TheInside.{Inside}
use Rattle.pool_index.specs.QueuedDeadlines.{DeadlineQueueState}

abbrev pub state_of : Inside → DeadlineQueueState
state_of queue = record { deadlines = queue.deadlines.items; room = queue.deadlines.room }

-- the deadlines are in their order
pub record IsDeadlineQueue (queue : Inside) : Type 0 where
  pub rising : IsRising is_earlier queue.deadlines.items
