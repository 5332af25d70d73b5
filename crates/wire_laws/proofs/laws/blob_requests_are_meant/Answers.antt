use Rattle.wire_laws.proofs.BlobMeanings.{get_is_meant, put_is_meant}
use Rattle.wire_laws.proofs.laws.blob_requests_are_meant.Goals as goal

pub returns : goal.returns
returns c = record { get = get_is_meant; put = put_is_meant }
