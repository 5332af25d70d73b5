use Rattle.std.proofs.Common.{arith}
use Rattle.std.proofs.lemmas.Grind.{common_steps}
use Rattle.runners.proofs.memory_runner.MemoryRunnerRunner.collect.Goals as goal

pub returns-else-as_slice-most : goal.returns-else-as_slice-most
returns-else-as_slice-most c = grind (arith, common_steps)
