use Rattle.index_laws.proofs.UuidLinks.{uuid_is_found}
use Rattle.index_laws.proofs.links.uuid_is_found.Goals as goal

pub returns : goal.returns
returns c = uuid_is_found
