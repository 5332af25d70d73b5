use Rattle.index_laws.proofs.CountsFollow.{counts_follow}
use Rattle.index_laws.proofs.rows.counts_follow.Goals as goal

pub returns : goal.returns
returns c = counts_follow
