use Rattle.index_laws.proofs.FirstIsNext.{first_is_next}
use Rattle.index_laws.proofs.queues.first_is_next.Goals as goal

pub returns : goal.returns
returns c = first_is_next
