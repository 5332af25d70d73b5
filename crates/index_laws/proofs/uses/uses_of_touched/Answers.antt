use Rattle.index_laws.proofs.UsesChange.{uses_of_touched, names_of_touched}
use Rattle.index_laws.proofs.uses.uses_of_touched.Goals as goal

pub returns : goal.returns
returns c = record { uses = uses_of_touched; names = names_of_touched }
