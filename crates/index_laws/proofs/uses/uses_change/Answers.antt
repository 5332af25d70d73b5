use Rattle.index_laws.proofs.UsesChange.{uses_where_ended, uses_where_not_ended}
use Rattle.index_laws.proofs.uses.uses_change.Goals as goal

pub returns : goal.returns
returns c = record { ended = uses_where_ended; not_ended = uses_where_not_ended }
