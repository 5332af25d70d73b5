-- The first boards have ended, and the others are left.
use Rattle.std.proofs.Common.{◌≡◌, ◌≤◌, length, IfSome}
use Rattle.std.specs.Vec.Iter.{into_iter_items, into_iter_len}
use Rattle.board_workers.proofs.Shutting.{HasShut}
use Rattle.board_workers.proofs.ending.end_boards.Given as goal

abbrev pub invariant-loop-board : goal.invariant-loop-board
invariant-loop-board g l = record {
  left : into_iter_len l.rest ≡ length (into_iter_items l.rest);
  out : IfSome (g.N.Listener.state l.listener).out (λ n. into_iter_len l.rest ≤ n);
  shut : HasShut (λ b. g.N.Acceptor.Acceptor.state b.acceptor) (λ b. b.worked.stop) l.fn.boards.items (into_iter_items l.rest) (g.N.Listener.state l.fn.listener) (g.N.Listener.state l.listener) l.fn.stop l.gravest;
}

abbrev pub decreases-loop-board : goal.decreases-loop-board
decreases-loop-board g l = into_iter_len l.rest
