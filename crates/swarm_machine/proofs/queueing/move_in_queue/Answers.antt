-- A task that left is absent.
use Rattle.swarm_machine.proofs.queueing.move_in_queue.Goals as goal

pub enter_number-requires-clause-absent : goal.enter_number-requires-clause-absent
enter_number-requires-clause-absent c w dims h = ((c.leave.ensures.leaves w dims).0 h).1
