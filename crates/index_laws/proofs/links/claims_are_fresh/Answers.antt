use Rattle.index_laws.proofs.ClaimLinks.{claims_are_fresh}
use Rattle.index_laws.proofs.links.claims_are_fresh.Goals as goal

pub returns : goal.returns
returns c = claims_are_fresh
