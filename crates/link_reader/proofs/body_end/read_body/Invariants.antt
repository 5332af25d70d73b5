use Rattle.std.proofs.Common.{◌-◌}
use Rattle.link_reader.proofs.PieceLemmas.{SoFar}
use Rattle.link_reader.proofs.body_end.read_body.Given as goal

abbrev pub invariant-pieces : goal.invariant-pieces
invariant-pieces g l = SoFar (g.L.Link.state l.fn.link) (g.L.Link.state l.link) l.fn.pending l.pending l.head l.size l.got l.body

abbrev pub decreases-pieces : goal.decreases-pieces
decreases-pieces g l = l.size - l.got
