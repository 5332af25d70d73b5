use Rattle.index_laws.proofs.BlobDeadlinesFollow.{blob_deadlines_follow}
use Rattle.index_laws.proofs.deadlines.blob_deadlines_follow.Goals as goal

pub returns : goal.returns
returns c = blob_deadlines_follow
