use Rattle.index_laws.proofs.UuidLinks.{uuids_are_fresh}
use Rattle.index_laws.proofs.links.uuids_are_fresh.Goals as goal

pub returns : goal.returns
returns c = uuids_are_fresh
