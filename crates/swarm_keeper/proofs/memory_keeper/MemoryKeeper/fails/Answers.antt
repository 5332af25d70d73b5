use Rattle.std.proofs.Common.{rules}
use Rattle.swarm_keeper.proofs.memory_keeper.MemoryKeeper.fails.Goals as goal

pub returns-then-is_failing-clause-counted : goal.returns-then-is_failing-clause-counted
returns-then-is_failing-clause-counted c = search rules
