-- One board more has ended.
use Rattle.std.proofs.Common.{length, ap, arith}
use Rattle.std.specs.Vec.Iter.{into_iter_items, into_iter_len}
use Rattle.swarm_workers.proofs.JoinedDoors.{out_less}
use Rattle.board_workers.proofs.Shutting.{shut_more}
use Rattle.board_workers.proofs.ending.end_boards.Goals as goal

pub loop-board-preserved : goal.loop-board-preserved
loop-board-preserved g c =
    let i = c.loop-board.invariant in
    record {
      left = omega (arith, i.left, c.in-Some.ensures.len, ap length c.in-Some.ensures.items);
      out = out_less (g.N.Listener.state c.loop-board.listener).out (g.N.Listener.state c.shut.new.self).out (into_iter_len c.loop-board.rest) (into_iter_len c.next.new.self) (omega (arith, c.in-Some.ensures.len)) c.shut.ensures.out i.out;
      shut = shut_more (λ b. g.N.Acceptor.Acceptor.state b.acceptor) (λ b. b.worked.stop) c.args.boards.items (into_iter_items c.loop-board.rest) (into_iter_items c.next.new.self) c.in-Some.board _ _ _ c.args.stop c.loop-board.gravest c.graver-gravest.result c.in-Some.ensures.items c.shut.ensures c.graver-gravest.ensures i.shut;
    }
