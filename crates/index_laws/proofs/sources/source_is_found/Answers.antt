use Rattle.index_laws.proofs.SourceIsFound.{source_is_found}
use Rattle.index_laws.proofs.sources.source_is_found.Goals as goal

pub returns : goal.returns
returns c = source_is_found
