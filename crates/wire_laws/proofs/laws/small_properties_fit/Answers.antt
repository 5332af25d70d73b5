use Rattle.std.proofs.Common.{refl}
use Rattle.server_calls.specs.Commands.{checked_properties}
use Rattle.wire_laws.proofs.laws.small_properties_fit.Goals as goal

pub returns : goal.returns
unfolding checked_properties
returns c = refl
