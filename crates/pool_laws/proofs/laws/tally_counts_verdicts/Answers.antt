-- The rows have the numbers from 1 on, and each is in one state.
use Rattle.pool_laws.proofs.TallyLaw.{tally_counts_verdicts, tally_adds_up}
use Rattle.pool_laws.proofs.laws.tally_counts_verdicts.Goals as goal

pub returns : goal.returns
returns c = record { counts = tally_counts_verdicts; adds_up = tally_adds_up }
