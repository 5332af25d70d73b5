-- The bots of each row are the claimants, entry by entry.
use Rattle.pool_laws.proofs.ClaimLaw.{runs_right}
use Rattle.pool_laws.proofs.laws.runs_are_right.Goals as goal

pub returns : goal.returns
returns c = runs_right
