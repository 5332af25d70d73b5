-- One acceptor more is shut.
use Rattle.std.proofs.Common.{length, ap, arith, refl}
use Rattle.std.specs.Vec.Iter.{into_iter_items, into_iter_len}
use Rattle.swarm_workers.specs.declared.worked.WorkStop.TheVariants as stop
use Rattle.swarm_workers.proofs.JoinedDoors.{out_less}
use Rattle.board_workers.proofs.Shutting.{shut_more}
use Rattle.board_workers.proofs.ending.shut_all.Goals as goal

pub loop-acceptor-preserved : goal.loop-acceptor-preserved
loop-acceptor-preserved g c =
    let i = c.loop-acceptor.invariant in
    record {
      left = omega (arith, i.left, c.in-Some.ensures.len, ap length c.in-Some.ensures.items);
      out = out_less (g.N.Listener.state c.loop-acceptor.listener).out (g.N.Listener.state c.shut.new.self).out (into_iter_len c.loop-acceptor.rest) (into_iter_len c.next.new.self) (omega (arith, c.in-Some.ensures.len)) c.shut.ensures.out i.out;
      shut = shut_more g.N.Acceptor.Acceptor.state (λ a. stop.Done) c.args.acceptors.items (into_iter_items c.loop-acceptor.rest) (into_iter_items c.next.new.self) c.in-Some.acceptor _ _ _ stop.Done stop.Done stop.Done c.in-Some.ensures.items c.shut.ensures refl i.shut;
    }
