use Rattle.wire_laws.proofs.BlobMeanings.{calls_found, blobs_found}
use Rattle.wire_laws.proofs.laws.targets_are_found.Goals as goal

pub returns : goal.returns
returns c = record { calls = calls_found; blobs = blobs_found }
