use Rattle.std.proofs.Common.{rules}
use Rattle.task_checks.proofs.InputFiles.{sorted_inputs-is}
use Rattle.task_checks.proofs.inputs.sorted_inputs.Goals as goal

pub returns : goal.returns
returns c = sorted_inputs-is c.args.files c.in_ok-sorted.sorted (search rules) (search rules)
