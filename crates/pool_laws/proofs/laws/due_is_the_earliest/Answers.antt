-- The search keeps the earliest so far.
use Rattle.pool_laws.proofs.DueLaw.{due_is_earliest}
use Rattle.pool_laws.proofs.laws.due_is_the_earliest.Goals as goal

pub returns : goal.returns
returns c = due_is_earliest
