use Rattle.index_laws.proofs.ClaimLinks.{claims_follow}
use Rattle.index_laws.proofs.links.claims_follow.Goals as goal

pub returns : goal.returns
returns c = claims_follow
