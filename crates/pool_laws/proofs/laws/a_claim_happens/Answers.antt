-- Each entry is looked up.
use Rattle.pool_laws.proofs.Worked.{it_happens}
use Rattle.pool_laws.proofs.laws.a_claim_happens.Goals as goal

pub returns : goal.returns
returns c = it_happens
