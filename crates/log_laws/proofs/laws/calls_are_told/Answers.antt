-- What was due comes first, so an update is the request's own, and the rows and the log are those of its answer.
use Rattle.log_laws.proofs.CallLaw.{calls_told, stops_add_no_update}
use Rattle.log_laws.proofs.laws.calls_are_told.Goals as goal

pub returns-clause-calls : goal.returns-clause-calls
returns-clause-calls c = calls_told

pub returns-clause-stops : goal.returns-clause-stops
returns-clause-stops c = stops_add_no_update
