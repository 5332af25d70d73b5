-- The table of answers, branch by branch.
use Rattle.log_laws.proofs.Telling.{updates_asked, runs_told, chunks_taken}
use Rattle.log_laws.proofs.laws.pool_tells.Goals as goal

pub returns-clause-updates : goal.returns-clause-updates
returns-clause-updates c = updates_asked

pub returns-clause-runs : goal.returns-clause-runs
returns-clause-runs c = runs_told

pub returns-clause-chunks : goal.returns-clause-chunks
returns-clause-chunks c = chunks_taken
