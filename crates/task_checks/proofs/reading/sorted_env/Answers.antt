use Rattle.std.proofs.Common.{rules}
use Rattle.dimensions.proofs.Orders.{sorted_pairs-is}
use Rattle.task_checks.proofs.reading.sorted_env.Goals as goal

pub returns : goal.returns
returns c = sorted_pairs-is c.args.pairs c.in_ok-sorted.sorted (search rules) (search rules)
