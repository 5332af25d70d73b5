use Rattle.std.proofs.Common.{rules}
use Rattle.dimensions.proofs.matching.holds.Goals as goal

pub returns : goal.returns
returns c = search rules
