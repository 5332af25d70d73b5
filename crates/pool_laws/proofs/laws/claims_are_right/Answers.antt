-- What a claim finds, and that its task was waiting all the time before.
use Rattle.pool_laws.proofs.ClaimLaw.{claims_right}
use Rattle.pool_laws.proofs.laws.claims_are_right.Goals as goal

pub returns : goal.returns
returns c = claims_right
