use Rattle.std.proofs.Common.{length}
use Rattle.link_writer.proofs.Pieces.{SoFar}
use Rattle.link_writer.proofs.sending.send_whole.Given as goal

abbrev pub invariant-writes : goal.invariant-writes
invariant-writes g l = SoFar (g.L.Link.state l.fn.link) (g.L.Link.state l.link) l.fn.text l.rest

abbrev pub decreases-writes : goal.decreases-writes
decreases-writes g l = length l.rest
