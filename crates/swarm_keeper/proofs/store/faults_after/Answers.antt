use Rattle.std.proofs.Common.{rules}
use Rattle.swarm_keeper.proofs.store.faults_after.Goals as goal

pub returns-else-keeper_faults-eq0 : goal.returns-else-keeper_faults-eq0
returns-else-keeper_faults-eq0 c = search rules
