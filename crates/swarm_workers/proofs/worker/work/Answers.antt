-- What the worker did.
use Rattle.swarm_workers.proofs.Working.{worked_told, kept_told}
use Rattle.swarm_workers.proofs.worker.work.Goals as goal

pub returns : goal.returns
returns g c = record {
  worked = worked_told (λ x. g.C.Clock.ahead x.1) (λ x. g.D.Door.state x.0) (g.A.Acceptor.state c.args.acceptor.now) (g.A.Acceptor.state c.serve_links.new.acceptor) _ _ c.args.connections c.serve_links.result c.serve_links.ensures;
  door = kept_told (λ x. g.C.Clock.ahead x.1) (λ x. g.D.Door.state x.0) (g.A.Acceptor.state c.args.acceptor.now) (g.A.Acceptor.state c.serve_links.new.acceptor) _ _ c.args.connections c.serve_links.result c.serve_links.ensures;
}
