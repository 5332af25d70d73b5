use Rattle.std.proofs.Common.{refl}
use Rattle.std.specs.Fmt.{digits}
use Rattle.base64.specs.Rfc4648.{encode_symbols}
use Rattle.serde_json.proofs.OnLiterals.{serde_json_on_literals}
use Rattle.bot_requests.specs.Bodies.{output_members}
use Rattle.wire_examples.proofs.bot_request_examples.a_report_names_its_run.Goals as goal

pub returns : goal.returns
unfolding output_members encode_symbols serde_json_on_literals digits
returns c = refl
