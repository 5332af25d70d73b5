-- No entry changes the number or the name of a row.
use Rattle.log_laws.proofs.NameLaw.{names_last, names_tell, new_names}
use Rattle.log_laws.proofs.laws.names_last.Goals as goal

pub returns-clause-last : goal.returns-clause-last
returns-clause-last c = names_last

pub returns-clause-tell : goal.returns-clause-tell
returns-clause-tell c = names_tell

pub returns-clause-new : goal.returns-clause-new
returns-clause-new c = new_names
