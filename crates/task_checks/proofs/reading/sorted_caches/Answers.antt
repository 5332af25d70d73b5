use Rattle.std.proofs.Common.{rules}
use Rattle.task_checks.proofs.Lists.{sorted_caches-is}
use Rattle.task_checks.proofs.reading.sorted_caches.Goals as goal

pub returns : goal.returns
returns c = sorted_caches-is c.args.caches c.in_ok-sorted.sorted (search rules) (search rules)
