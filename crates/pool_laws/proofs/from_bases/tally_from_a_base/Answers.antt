-- The rows have the numbers from 1 on, and each is in one state.
use Rattle.pool_laws.proofs.TallyLaw.{tally_since, total_since}
use Rattle.pool_laws.proofs.from_bases.tally_from_a_base.Goals as goal

pub returns : goal.returns
returns c = record { counts = tally_since; adds_up = total_since }
