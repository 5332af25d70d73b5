-- A sound pool has tasks that were checked.
use Rattle.log_laws.proofs.CheckedLaw.{properties_checked}
use Rattle.log_laws.proofs.laws.properties_are_checked.Goals as goal

pub returns : goal.returns
returns c = properties_checked
