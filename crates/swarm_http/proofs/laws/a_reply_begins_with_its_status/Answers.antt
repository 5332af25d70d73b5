-- Each way to answer begins with the status of its reply.
use Rattle.swarm_http.proofs.Statuses.{shows_status, accepted_is}
use Rattle.swarm_http.proofs.laws.a_reply_begins_with_its_status.Goals as goal

pub returns-clause-status : goal.returns-clause-status
returns-clause-status c = shows_status

pub returns-clause-accepted : goal.returns-clause-accepted
returns-clause-accepted c = accepted_is
