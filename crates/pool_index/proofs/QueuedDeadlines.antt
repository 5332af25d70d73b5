-- What deadlines in their order mean for a queue of them.
use Rattle.std.proofs.Common.{◌<◌, List, [], ◌∷◌, refl, arith}
use Rattle.std.specs.Prelude.{slice_get}
use Rattle.block_list.specs.Rising.{IsRising}
use Rattle.block_list.proofs.Rising.{least}
use Rattle.swarm_model.specs.declared.deadline.Deadline.{Deadline}
use Rattle.swarm_model.specs.Deadlines.{is_earlier}
use Rattle.pool_index.specs.QueuedDeadlines.{IsEarliestOf}
use Rattle.pool_index.proofs.DeadlineOrder.{strict}

pub earliest : (ds : List Deadline) → IsRising is_earlier ds → IsEarliestOf ds (slice_get ds 0)
earliest [] rising = λ d c. let low : c.0 < 0 = c.1 in absurd (omega arith)
earliest (first ∷ ds) rising = record {
  among = (0, omega arith, refl);
  least = λ d c. least is_earlier strict (first ∷ ds) rising first d (omega arith) refl c;
}
