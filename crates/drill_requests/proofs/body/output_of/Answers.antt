use Rattle.std.proofs.Common.{rules}
use Rattle.drill_requests.specs.Texts.{output}
use Rattle.drill_requests.proofs.body.output_of.Goals as goal

pub returns : goal.returns
unfolding output
returns c = search rules
