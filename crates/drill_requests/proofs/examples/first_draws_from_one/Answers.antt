use Rattle.std.proofs.Common.{refl}
use Rattle.drill_requests.specs.Draws.{value_after}
use Rattle.drill_requests.proofs.examples.first_draws_from_one.Goals as goal

pub returns : goal.returns
unfolding value_after
returns c = refl
