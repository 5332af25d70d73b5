use Rattle.std.specs.Fmt.{digits}
use Rattle.std.proofs.Common.{refl}
use Rattle.base_examples.proofs.request_examples.a_server_without_a_port_is_dialed_at_80.Goals as goal

pub returns : goal.returns
unfolding digits
returns c = refl
