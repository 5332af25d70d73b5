use Rattle.std.specs.Fmt.{digits}
use Rattle.std.proofs.Common.{refl}
use Rattle.base_examples.proofs.request_examples.a_server_with_a_port_is_dialed_and_named_with_it.Goals as goal

pub returns : goal.returns
unfolding digits
returns c = refl
