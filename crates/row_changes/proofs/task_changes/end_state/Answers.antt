use Rattle.std.proofs.Common.{arith}
use Rattle.std.proofs.lemmas.Grind.{common_steps}
use Rattle.row_changes.proofs.task_changes.end_state.Goals as goal

pub returns-then-attempt : goal.returns-then-attempt
returns-then-attempt c = grind (arith, common_steps)
