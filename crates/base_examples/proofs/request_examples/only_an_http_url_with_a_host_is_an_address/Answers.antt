use Rattle.std.specs.Fmt.{digits}
use Rattle.std.proofs.Common.{refl}
use Rattle.base_examples.proofs.request_examples.only_an_http_url_with_a_host_is_an_address.Goals as goal

pub returns-clause-http : goal.returns-clause-http
unfolding digits
returns-clause-http c = refl
