use Rattle.std.proofs.Common.{rules}
use Rattle.swarm_http.proofs.Requests.{takes_after}
use Rattle.swarm_http.proofs.request.take_request.Goals as goal

pub returns-in-Ok-At : goal.returns-in-Ok-At
returns-in-Ok-At g c = let h = c.in-Ok-At.ensures in takes_after h.grows h.faults c.take_head.ensures

pub returns-then-is_empty : goal.returns-then-is_empty
returns-then-is_empty g c = search rules
