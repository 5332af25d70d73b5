-- Each entry moves a task as the log tells.
use Rattle.pool_laws.proofs.VerdictLaw.{verdict_is_state}
use Rattle.pool_laws.proofs.laws.verdicts_are_states.Goals as goal

pub returns : goal.returns
returns c = verdict_is_state
