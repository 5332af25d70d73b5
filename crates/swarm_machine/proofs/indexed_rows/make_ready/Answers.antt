use Rattle.std.proofs.Common.{rules}
use Rattle.swarm_machine.proofs.indexed_rows.make_ready.Goals as goal

pub returns-clause-ready : goal.returns-clause-ready
returns-clause-ready c = search rules
