use Rattle.std.proofs.Common.{rules}
use Rattle.dimensions.proofs.Orders.{sorted_texts-is}
use Rattle.dimensions.proofs.bot_dims.sorted_values.Goals as goal

pub returns : goal.returns
returns c = sorted_texts-is c.args.values c.in_ok-sorted.sorted (search rules) (search rules)
