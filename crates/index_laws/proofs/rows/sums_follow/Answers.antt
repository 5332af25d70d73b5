use Rattle.index_laws.proofs.SumsFollow.{sums_follow}
use Rattle.index_laws.proofs.rows.sums_follow.Goals as goal

pub returns : goal.returns
returns c = sums_follow
