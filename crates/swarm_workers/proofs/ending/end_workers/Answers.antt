-- A worker more has ended.
use Rattle.std.proofs.Common.{◌≡◌, ◌+◌, ◌∷◌, ◌∙◌, length, ap, arith, rules, sym}
use Rattle.std.specs.Vec.Iter.{into_iter_items, into_iter_len}
use Rattle.shared_doors.specs.contracts.shared_door.SharedDoorDoor.TheImpl.{ghosts}
use Rattle.shared_doors.specs.Machines.{lasting_in}
use Rattle.shared_doors.specs.SharedDoors.{identities_of, pools_of}
use Rattle.shared_doors.specs.Views.{views}
use Rattle.swarm_workers.specs.Crews.{IsDoorTo}
use Rattle.swarm_workers.proofs.JoinedDoors.{ended_all, ended_more, ended_one, first_of_all, is_out, others_of_all, out_less, tells}
use Rattle.swarm_workers.proofs.NewDoors.{no_items}
use Rattle.swarm_workers.proofs.ending.end_workers.Goals as goal

pub end_worker-stop-requires-clause-door : goal.end_worker-stop-requires-clause-door
end_worker-stop-requires-clause-door g c =
    let state = (ghosts g.row.M g.row.K g.row.T g.M.Machine g.M.Machine-dict g.K.Keeper g.K.Keeper-dict g.T.Wait g.T.Wait-dict g.M.Destruct-dict g.K.Destruct-dict).state in
    let door = first_of_all c.args.workers.items (into_iter_items c.next.new.self) c.in-Some.worker (λ w. IsDoorTo (record { store = c.args.server.now.store; pools = pools_of (lasting_in g.M.Machine.kept) c.args.server.now.turnstiles.items }) (identities_of c.args.server.now.turnstiles.items) (state w.door))
    (sym c.into_iter-rest.ensures.rest ∙ c.in-Some.ensures.items) c.requires.doors in
    search (rules, door)

pub end_worker-next-requires-clause-door : goal.end_worker-next-requires-clause-door
end_worker-next-requires-clause-door g c =
    let state = (ghosts g.row.M g.row.K g.row.T g.M.Machine g.M.Machine-dict g.K.Keeper g.K.Keeper-dict g.T.Wait g.T.Wait-dict g.M.Destruct-dict g.K.Destruct-dict).state in
    let door = first_of_all (into_iter_items c.loop-worker.rest) (into_iter_items c.next-in-loop-worker.new.self) c.in-Some-next.worker (λ w. IsDoorTo (record { store = c.args.server.now.store; pools = pools_of (lasting_in g.M.Machine.kept) c.args.server.now.turnstiles.items }) (identities_of c.args.server.now.turnstiles.items) (state w.door))
    c.in-Some-next.ensures.items c.loop-worker.invariant.doors in
    search (rules, door)

pub end_worker-next-requires-clause-out : goal.end_worker-next-requires-clause-out
end_worker-next-requires-clause-out g c =
    let out = is_out (g.N.Listener.state c.loop-worker.listener).out (into_iter_len c.loop-worker.rest) (omega (arith, c.in-Some-next.ensures.len)) c.loop-worker.invariant.out in
    search (rules, out)

pub join-passes-requires : goal.join-passes-requires
join-passes-requires g c = record { one = c.loop-worker.invariant.own; two = c.end_worker-next.ensures.own }

pub loop-worker-init : goal.loop-worker-init
loop-worker-init g c =
    let ts = c.args.server.now.turnstiles.items in
    let state = (ghosts g.row.M g.row.K g.row.T g.M.Machine g.M.Machine-dict g.K.Keeper g.K.Keeper-dict g.T.Wait g.T.Wait-dict g.M.Destruct-dict g.K.Destruct-dict).state in
    let left = into_iter_items c.next.new.self in
    let parts : c.args.workers.items ≡ c.in-Some.worker ∷ left = sym c.into_iter-rest.ensures.rest ∙ c.in-Some.ensures.items in
    let e = c.end_worker-stop.ensures in
    let counted : length c.args.workers.items ≡ into_iter_len c.next.new.self + 1 = omega (arith, c.into_iter-rest.ensures.len, c.args.workers.ok.0, c.in-Some.ensures.len) in
    record {
      own = e.own;
      doors = others_of_all c.args.workers.items left c.in-Some.worker (λ w. IsDoorTo (record { store = c.args.server.now.store; pools = pools_of (lasting_in g.M.Machine.kept) c.args.server.now.turnstiles.items }) (identities_of c.args.server.now.turnstiles.items) (state w.door)) parts c.requires.doors;
      left = omega (arith, counted, ap length parts);
      out = out_less (g.N.Listener.state c.args.listener.now).out (g.N.Listener.state c.end_worker-stop.new.listener).out (length c.args.workers.items) (into_iter_len c.next.new.self) counted e.shuts.out c.requires.out;
      ended = ended_one c.args.workers.items left c.in-Some.worker _ _ _ (length ts) _ _ _ _ parts (tells _ _ _ _ _ e.door) e.shuts e.stop;
    }

pub loop-worker-preserved : goal.loop-worker-preserved
loop-worker-preserved g c =
    let i = c.loop-worker.invariant in
    let ts = c.args.server.now.turnstiles.items in
    let state = (ghosts g.row.M g.row.K g.row.T g.M.Machine g.M.Machine-dict g.K.Keeper g.K.Keeper-dict g.T.Wait g.T.Wait-dict g.M.Destruct-dict g.K.Destruct-dict).state in
    let old = into_iter_items c.loop-worker.rest in
    let left = into_iter_items c.next-in-loop-worker.new.self in
    let w = c.in-Some-next.worker in
    let parts = c.in-Some-next.ensures.items in
    let e = c.end_worker-next.ensures in
    let counted : into_iter_len c.loop-worker.rest ≡ into_iter_len c.next-in-loop-worker.new.self + 1 = omega (arith, c.in-Some-next.ensures.len) in
    record {
      own = c.join-passes.ensures.own;
      doors = others_of_all old left w (λ w. IsDoorTo (record { store = c.args.server.now.store; pools = pools_of (lasting_in g.M.Machine.kept) c.args.server.now.turnstiles.items }) (identities_of c.args.server.now.turnstiles.items) (state w.door)) parts i.doors;
      left = omega (arith, i.left, counted, ap length parts);
      out = out_less (g.N.Listener.state c.loop-worker.listener).out (g.N.Listener.state c.end_worker-next.new.listener).out (into_iter_len c.loop-worker.rest) (into_iter_len c.next-in-loop-worker.new.self) counted e.shuts.out i.out;
      ended = ended_more c.args.workers.items old left w _ _ _ (length ts) _ _ _ _ _ _ (views c.loop-worker.passes.passes.items) _ _
          parts (tells _ _ _ _ _ e.door) c.join-passes.ensures.joined e.shuts e.stop c.graver-stop.ensures i.ended;
    }

pub returns : goal.returns
returns g c =
    let i = c.loop-worker.invariant in
    let e = ended_all c.args.workers.items (into_iter_items c.loop-worker.rest) _ _ _ _ _ _ _ _ (no_items _ (omega (arith, i.left, c.in_default-next.ensures.cases))) i.ended in
    record { own = i.own; joined = e.0; first = e.1; shuts = e.2; stop = e.3 }
