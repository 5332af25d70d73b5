-- The first acceptors are shut, and the others are left.
use Rattle.std.proofs.Common.{◌≡◌, ◌≤◌, length, IfSome}
use Rattle.std.specs.Vec.Iter.{into_iter_items, into_iter_len}
use Rattle.swarm_workers.specs.declared.worked.WorkStop.TheVariants as stop
use Rattle.board_workers.proofs.Shutting.{HasShut}
use Rattle.board_workers.proofs.ending.shut_all.Given as goal

abbrev pub invariant-loop-acceptor : goal.invariant-loop-acceptor
invariant-loop-acceptor g l = record {
  left : into_iter_len l.rest ≡ length (into_iter_items l.rest);
  out : IfSome (g.N.Listener.state l.listener).out (λ n. into_iter_len l.rest ≤ n);
  shut : HasShut g.N.Acceptor.Acceptor.state (λ a. stop.Done) l.fn.acceptors.items (into_iter_items l.rest) (g.N.Listener.state l.fn.listener) (g.N.Listener.state l.listener) stop.Done stop.Done;
}

abbrev pub decreases-loop-acceptor : goal.decreases-loop-acceptor
decreases-loop-acceptor g l = into_iter_len l.rest
