use Rattle.index_laws.proofs.DeadlineIsNext.{deadline_is_next}
use Rattle.index_laws.proofs.deadlines.deadline_is_next.Goals as goal

pub returns : goal.returns
returns c = deadline_is_next
