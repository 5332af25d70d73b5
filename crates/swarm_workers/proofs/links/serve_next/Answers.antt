use Rattle.std.proofs.Common.{rules}
use Rattle.swarm_workers.proofs.Visiting.{served_one}
use Rattle.swarm_workers.proofs.links.serve_next.Goals as goal

pub returns-in-Ok-Some-clause-turn : goal.returns-in-Ok-Some-clause-turn
returns-in-Ok-Some-clause-turn g c =
    let comes = rw c.in-Ok-Some.field-0-is at c.in-Ok-Some.ensures.outcome in
    served_one g.S.LinkSessions.does {old = (c.args.desk.now, c.args.clock.now)} {new = (c.session.new.desk, c.session.new.clock)} comes c.in-Ok-Some.ensures.served c.session.ensures.does c.session.ensures.faults (search rules)
