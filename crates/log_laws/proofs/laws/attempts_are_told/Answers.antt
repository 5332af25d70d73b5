-- Entry by entry, for one bot: its claims and updates, and its runs in the rows.
use Rattle.log_laws.proofs.RunLaw.{attempts_told}
use Rattle.log_laws.proofs.laws.attempts_are_told.Goals as goal

pub returns : goal.returns
returns c = attempts_told
