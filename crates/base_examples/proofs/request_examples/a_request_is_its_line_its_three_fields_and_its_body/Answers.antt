use Rattle.std.specs.Fmt.{digits}
use Rattle.std.proofs.Common.{refl}
use Rattle.client_requests.specs.Requests.{head_text}
use Rattle.base_examples.proofs.request_examples.a_request_is_its_line_its_three_fields_and_its_body.Goals as goal

pub returns : goal.returns
unfolding digits head_text
returns c = refl
