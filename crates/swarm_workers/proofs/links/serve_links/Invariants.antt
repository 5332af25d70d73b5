use Rattle.std.proofs.Common.{ℕ, ◌+◌, ◌≡◌}
use Rattle.swarm_workers.proofs.Visiting.{SoFar}
use Rattle.swarm_workers.proofs.links.serve_links.Given as goal

abbrev pub invariant-links : goal.invariant-links
invariant-links g l = record {
  may : (n : ℕ) → l.served + n ≡ l.fn.connections → g.S.LinkSessions.may l.fn.settings n (l.desk, l.clock);
  so_far : SoFar g.S.LinkSessions.does l.served (g.A.Acceptor.state l.fn.acceptor) (g.A.Acceptor.state l.acceptor) (l.fn.desk, l.fn.clock) (l.desk, l.clock);
}
