-- The blobs are found as the decision finds them.
use Rattle.pool_laws.proofs.NamedBlobs.{named_blobs_are_there}
use Rattle.pool_laws.proofs.laws.named_blobs_are_there.Goals as goal

pub returns : goal.returns
returns c = named_blobs_are_there
