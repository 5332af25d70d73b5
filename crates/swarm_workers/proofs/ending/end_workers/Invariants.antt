-- The first workers have ended, and the others are left.
use Rattle.std.proofs.Common.{◌≡◌, ◌≤◌, length, IfSome}
use Rattle.std.specs.List.{All}
use Rattle.std.specs.Vec.Iter.{into_iter_items, into_iter_len}
use Rattle.shared_doors.specs.contracts.shared_door.SharedDoorDoor.TheImpl.{ghosts}
use Rattle.shared_doors.specs.Machines.{lasting_in}
use Rattle.shared_doors.specs.SharedDoors.{identities_of, pools_of}
use Rattle.shared_doors.specs.Views.{AreOf, views}
use Rattle.swarm_workers.specs.Crews.{IsDoorTo}
use Rattle.swarm_workers.proofs.JoinedDoors.{HasEnded}
use Rattle.swarm_workers.proofs.ending.end_workers.Given as goal

abbrev pub invariant-loop-worker : goal.invariant-loop-worker
invariant-loop-worker g l = record {
  own : AreOf (lasting_in g.M.Machine.kept) l.server.turnstiles.items l.passes.passes.items;
  doors : All (λ w. IsDoorTo (record { store = l.server.store; pools = pools_of (lasting_in g.M.Machine.kept) l.server.turnstiles.items }) (identities_of l.server.turnstiles.items) ((ghosts g.row.M g.row.K g.row.T g.M.Machine g.M.Machine-dict g.K.Keeper g.K.Keeper-dict g.T.Wait g.T.Wait-dict g.M.Destruct-dict g.K.Destruct-dict).state w.door)) (into_iter_items l.rest);
  left : into_iter_len l.rest ≡ length (into_iter_items l.rest);
  out : IfSome (g.N.Listener.state l.listener).out (λ n. into_iter_len l.rest ≤ n);
  ended : HasEnded l.fn.workers.items (into_iter_items l.rest) (λ w. (ghosts g.row.M g.row.K g.row.T g.M.Machine g.M.Machine-dict g.K.Keeper g.K.Keeper-dict g.T.Wait g.T.Wait-dict g.M.Destruct-dict g.K.Destruct-dict).state w.door) (λ w. g.N.Acceptor.Acceptor.state w.acceptor) (λ w. w.worked.stop)
      (length l.server.turnstiles.items) (g.N.Listener.state l.fn.listener) (g.N.Listener.state l.listener) l.stop (views l.passes.passes.items);
}

abbrev pub decreases-loop-worker : goal.decreases-loop-worker
decreases-loop-worker g l = into_iter_len l.rest
