use Rattle.std.proofs.Common.{refl}
use Rattle.drill_requests.specs.Draws.{value_after}
use Rattle.drill_requests.specs.Requests.{cycles, requests, cycle_after, cycle_from}
use Rattle.drill_requests.proofs.examples.three_cycles_from_one.Goals as goal

pub returns : goal.returns
unfolding value_after cycles requests cycle_after cycle_from
returns c = refl
