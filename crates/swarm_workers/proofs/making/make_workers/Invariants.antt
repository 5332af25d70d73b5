-- The workers so far stand over new doors, and the shares and acceptors of the others are left.
use Rattle.std.proofs.Common.{◌≡◌, ◌<◌, ◌≤◌, ◌+◌, ◌++◌, ℕ, length, map, vec_len, vec_capacity}
use Rattle.std.specs.List.{All}
use Rattle.std.specs.Vec.Iter.{into_iter_items, into_iter_len}
use Rattle.shared_doors.specs.contracts.shared_door.SharedDoorDoor.TheImpl.{ghosts}
use Rattle.shared_doors.specs.Machines.{lasting_in}
use Rattle.shared_doors.specs.SharedDoors.{identities_of, pools_of}
use Rattle.shared_doors.specs.Views.{view_at, views}
use Rattle.swarm_workers.specs.Crews.{AreNewDoors, KnowsMade}
use Rattle.swarm_workers.specs.Splits.{AreShares}
use Rattle.swarm_workers.proofs.making.make_workers.Given as goal

abbrev pub invariant-loop-passes : goal.invariant-loop-passes
invariant-loop-passes g l = record {
  some : 0 < length l.workers.items;
  left : into_iter_len l.others ≡ length (into_iter_items l.others);
  acceptors_left : into_iter_len l.acceptors ≡ length (into_iter_items l.acceptors);
  count : into_iter_len l.acceptors ≡ into_iter_len l.others;
  room : vec_len l.workers + into_iter_len l.others ≤ vec_capacity l.workers;
  shares : AreShares (lasting_in g.M.Machine.kept) l.server.turnstiles.items (length l.workers.items) (map (λ s. s.passes.items) (into_iter_items l.others));
  doors : AreNewDoors (record { store = l.server.store; pools = pools_of (lasting_in g.M.Machine.kept) l.server.turnstiles.items }) (identities_of l.server.turnstiles.items) 0
      (map (λ w. (ghosts g.row.M g.row.K g.row.T g.M.Machine g.M.Machine-dict g.K.Keeper g.K.Keeper-dict g.T.Wait g.T.Wait-dict g.M.Destruct-dict g.K.Destruct-dict).state w.door) l.workers.items);
  made : (made : ℕ) → ((p : ℕ) → p < length l.server.turnstiles.items → (view_at (views l.fn.first.passes.items) p).made ≡ made)
      → KnowsMade (record { store = l.server.store; pools = pools_of (lasting_in g.M.Machine.kept) l.server.turnstiles.items }) made (map (λ w. (ghosts g.row.M g.row.K g.row.T g.M.Machine g.M.Machine-dict g.K.Keeper g.K.Keeper-dict g.T.Wait g.T.Wait-dict g.M.Destruct-dict g.K.Destruct-dict).state w.door) l.workers.items);
  clocks : All (λ w. g.C.Clock.ahead w.clock ≡ g.C.Clock.ahead l.clock) l.workers.items;
  acceptors : map g.A.Acceptor.state l.fn.acceptors.items ≡ map (λ w. g.A.Acceptor.state w.acceptor) l.workers.items ++ map g.A.Acceptor.state (into_iter_items l.acceptors);
}

abbrev pub decreases-loop-passes : goal.decreases-loop-passes
decreases-loop-passes g l = into_iter_len l.others
