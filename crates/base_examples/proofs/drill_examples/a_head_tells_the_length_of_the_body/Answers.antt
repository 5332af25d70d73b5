use Rattle.std.proofs.Common.{refl}
use Rattle.std.specs.Fmt.{digits}
use Rattle.drill_requests.specs.Texts.{request_bytes, head, handshake_text}
use Rattle.base_examples.proofs.drill_examples.a_head_tells_the_length_of_the_body.Goals as goal

pub returns : goal.returns
unfolding request_bytes head handshake_text digits
returns c = refl
