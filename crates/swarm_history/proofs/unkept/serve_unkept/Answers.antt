-- There is no keeper that fails.
use Rattle.swarm_history.proofs.OwnPoints.{never_fails}
use Rattle.swarm_history.proofs.unkept.serve_unkept.Goals as goal

pub returns-clause-sure : goal.returns-clause-sure
returns-clause-sure g c = never_fails c.serve-result.result c.serve-result.ensures.failed
