use Rattle.std.proofs.Common.{arith}
use Rattle.std.proofs.lemmas.Grind.{common_steps}
use Rattle.sw_base.proofs.memory_listener.MemoryListenerListener.shut.Goals as goal

pub returns : goal.returns
returns c = grind (arith, common_steps)
