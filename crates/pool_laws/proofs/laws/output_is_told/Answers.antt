-- The chunks of a run are in a row.
use Rattle.pool_laws.proofs.OutputLaw.{output_told}
use Rattle.pool_laws.proofs.laws.output_is_told.Goals as goal

pub returns : goal.returns
returns c = output_told
