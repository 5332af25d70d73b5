-- Each refusal stands without an entry in the table.
use Rattle.pool_laws.proofs.Refusals.{refusals_add_nothing}
use Rattle.pool_laws.proofs.laws.refusals_add_nothing.Goals as goal

pub returns : goal.returns
returns c = refusals_add_nothing
