-- Request by request: only that for a new task adds one.
use Rattle.log_laws.proofs.Own.{new_is_asked}
use Rattle.log_laws.proofs.laws.new_is_asked.Goals as goal

pub returns : goal.returns
returns c = new_is_asked
