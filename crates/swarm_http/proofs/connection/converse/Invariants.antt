use Rattle.std.proofs.Common.{◌≡◌, ℕ, ◌+◌}
use Rattle.swarm_http.proofs.Serving.{SoFar}
use Rattle.swarm_http.proofs.connection.converse.Given as goal

abbrev pub invariant-requests : goal.invariant-requests
invariant-requests g l = record {
  so_far : SoFar g.R.Replies.does l.turn l.good l.reader.pending (l.fn.desk, l.fn.clock) (l.desk, l.clock) (g.L.Link.state l.fn.link) (g.L.Link.state l.link);
  may : (n : ℕ) → l.turn + n ≡ 65536 → g.R.Replies.may l.settings n (l.desk, l.clock);
}
