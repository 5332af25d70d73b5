-- Both are computed.
use Rattle.log_laws.proofs.Worked.{reported_again, lost_too_long}
use Rattle.log_laws.proofs.laws.a_bot_asks_again.Goals as goal

pub returns-clause-reported : goal.returns-clause-reported
returns-clause-reported c = reported_again

pub returns-clause-lost : goal.returns-clause-lost
returns-clause-lost c = lost_too_long
