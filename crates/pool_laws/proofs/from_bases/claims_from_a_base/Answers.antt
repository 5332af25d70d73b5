-- A task that waits had not ended in the base, so its row tells its claims.
use Rattle.pool_laws.proofs.BaseClaims.{right_claims_from}
use Rattle.pool_laws.proofs.from_bases.claims_from_a_base.Goals as goal

pub returns : goal.returns
returns c = right_claims_from
