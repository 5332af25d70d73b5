use Rattle.index_laws.proofs.SourcesFollow.{sources_follow}
use Rattle.index_laws.proofs.sources.sources_follow.Goals as goal

pub returns : goal.returns
returns c = sources_follow
