use Rattle.index_laws.proofs.ClaimLinks.{claim_is_found}
use Rattle.index_laws.proofs.links.claim_is_found.Goals as goal

pub returns : goal.returns
returns c = claim_is_found
