use Rattle.swarm_batch.proofs.Reopening.{batch_is_read_again}
use Rattle.swarm_batch.proofs.laws.a_batch_is_read_again.Goals as goal

pub returns : goal.returns
returns c = batch_is_read_again
