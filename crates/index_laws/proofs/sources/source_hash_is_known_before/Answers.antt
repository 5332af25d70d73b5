use Rattle.index_laws.proofs.SourceHash.{source_hash_is_known_before}
use Rattle.index_laws.proofs.sources.source_hash_is_known_before.Goals as goal

pub returns : goal.returns
returns c = source_hash_is_known_before
