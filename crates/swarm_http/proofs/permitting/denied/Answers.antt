use Rattle.swarm_http.proofs.permitting.denied.Goals as goal

pub returns-in-Ok : goal.returns-in-Ok
returns-in-Ok c = rw c.in-Ok.ensures at c.refusal_reply.ensures
