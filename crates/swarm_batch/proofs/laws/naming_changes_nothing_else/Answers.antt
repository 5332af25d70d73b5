use Rattle.swarm_batch.proofs.Naming.{naming_law}
use Rattle.swarm_batch.proofs.laws.naming_changes_nothing_else.Goals as goal

pub returns : goal.returns
returns c = naming_law
