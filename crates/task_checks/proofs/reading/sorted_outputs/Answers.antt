use Rattle.std.proofs.Common.{rules}
use Rattle.dimensions.proofs.Orders.{sorted_texts-is}
use Rattle.task_checks.proofs.reading.sorted_outputs.Goals as goal

pub returns : goal.returns
returns c = sorted_texts-is c.args.paths c.in_ok-sorted.sorted (search rules) (search rules)
