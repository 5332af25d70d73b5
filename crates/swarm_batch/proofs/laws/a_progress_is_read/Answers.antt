use Rattle.swarm_batch.proofs.Telling.{progress_is_read}
use Rattle.swarm_batch.proofs.laws.a_progress_is_read.Goals as goal

pub returns : goal.returns
returns c = progress_is_read
