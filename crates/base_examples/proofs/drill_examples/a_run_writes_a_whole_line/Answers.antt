use Rattle.std.proofs.Common.{refl}
use Rattle.std.specs.Fmt.{digits}
use Rattle.base64.specs.Rfc4648.{encode_symbols}
use Rattle.drill_requests.specs.Texts.{output}
use Rattle.base_examples.proofs.drill_examples.a_run_writes_a_whole_line.Goals as goal

pub returns : goal.returns
unfolding output digits encode_symbols
returns c = refl
