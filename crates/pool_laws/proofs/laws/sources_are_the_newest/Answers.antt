-- Rows have rising numbers, and slices are tried in their order.
use Rattle.pool_laws.proofs.SourceLaw.{source_is_newest, reuse_is_first}
use Rattle.pool_laws.proofs.laws.sources_are_the_newest.Goals as goal

pub returns : goal.returns
returns c = record { source = source_is_newest; slice = reuse_is_first }
