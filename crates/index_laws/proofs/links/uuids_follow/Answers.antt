use Rattle.index_laws.proofs.UuidLinks.{uuids_follow}
use Rattle.index_laws.proofs.links.uuids_follow.Goals as goal

pub returns : goal.returns
returns c = uuids_follow
