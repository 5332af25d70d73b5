-- What a new task takes is there when it is accepted, and final rows stay.
use Rattle.pool_laws.proofs.OutcomeLaw.{outcomes_taken}
use Rattle.pool_laws.proofs.laws.outcomes_are_taken_over.Goals as goal

pub returns : goal.returns
returns c = outcomes_taken
