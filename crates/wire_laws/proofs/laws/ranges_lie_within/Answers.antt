use Rattle.wire_laws.proofs.Ranges.{ranges_within}
use Rattle.wire_laws.proofs.laws.ranges_lie_within.Goals as goal

pub returns : goal.returns
returns c = ranges_within
