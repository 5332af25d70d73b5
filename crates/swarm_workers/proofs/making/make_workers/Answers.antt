-- A worker more is made.
use Rattle.std.proofs.Common.{◌≡◌, ◌+◌, ◌++◌, ◌∙◌, length, map, ap, arith, refl, rules, subst, sym}
use Rattle.std.proofs.lemmas.List.{length_push}
use Rattle.std.proofs.lemmas.List.Elements.{All-push}
use Rattle.std.specs.List.{All}
use Rattle.std.specs.Vec.Iter.{into_iter_items}
use Rattle.shared_doors.specs.contracts.shared_door.SharedDoorDoor.TheImpl.{ghosts}
use Rattle.shared_doors.specs.Machines.{lasting_in}
use Rattle.shared_doors.specs.SharedDoors.{identities_of, pools_of}
use Rattle.swarm_workers.specs.Crews.{AreNewDoors, KnowsMade}
use Rattle.swarm_workers.specs.Splits.{AreShares}
use Rattle.swarm_workers.proofs.NewDoors.{doors_push, first_item, first_knows, knows_push, moved_all, moved_on, new_door, no_items, rest_shares}
use Rattle.swarm_workers.proofs.making.make_workers.Goals as goal

pub make_worker-worker-requires-in-Some-next-clause-own : goal.make_worker-worker-requires-in-Some-next-clause-own
make_worker-worker-requires-in-Some-next-clause-own g c =
    let shares = rest_shares (lasting_in g.M.Machine.kept) c.args.server.now.turnstiles.items (λ s. s.passes.items) (length c.loop-passes.workers.items) (length c.loop-passes.workers.items + 1)
    (into_iter_items c.loop-passes.others) (into_iter_items c.next-in-loop-passes.new.self) c.in-Some-next.passes c.in-Some-next.ensures.items refl c.loop-passes.invariant.shares in
    let own = shares.0.own in
    search (rules, own)

pub loop-passes-init : goal.loop-passes-init
loop-passes-init g c =
    let ts = c.args.server.now.turnstiles.items in
    let door = (ghosts g.row.M g.row.K g.row.T g.M.Machine g.M.Machine-dict g.K.Keeper g.K.Keeper-dict g.T.Wait g.T.Wait-dict g.M.Destruct-dict g.K.Destruct-dict).state in
    let w = c.make_worker-worker.result in
    let more = c.push_reserved.new.self.items in
    let one = first_item c.args.room.items more w (omega (arith, c.requires.empty, c.args.room.ok.0)) c.push_reserved.ensures.items in
    record {
      some = omega (arith, ap length one);
      left = omega (arith, c.into_iter-others.ensures.len, c.args.others.ok.0, ap length c.into_iter-others.ensures.rest);
      acceptors_left = omega (arith, c.into_iter-acceptors.ensures.len, c.args.acceptors.ok.0, c.in-Some.ensures.len, ap length c.into_iter-acceptors.ensures.rest, ap length c.in-Some.ensures.items);
      count = omega (arith, c.into_iter-acceptors.ensures.len, c.args.acceptors.ok.0, c.in-Some.ensures.len, c.into_iter-others.ensures.len, c.args.others.ok.0, c.requires.count);
      room = omega (arith, c.push_reserved.ensures.len, c.push_reserved.ensures.capacity, c.requires.empty, c.requires.room, c.requires.count, c.into_iter-others.ensures.len, c.args.others.ok.0);
      shares = subst (λ n. AreShares (lasting_in g.M.Machine.kept) ts n (map (λ s. s.passes.items) (into_iter_items c.into_iter-others.result))) (sym (ap length one))
          (subst (λ l. AreShares (lasting_in g.M.Machine.kept) ts 1 (map (λ s. s.passes.items) l)) (sym c.into_iter-others.ensures.rest) c.requires.shares.1);
      doors = subst (λ l. AreNewDoors (record { store = c.args.server.now.store; pools = pools_of (lasting_in g.M.Machine.kept) ts }) (identities_of ts) 0 (map (λ w. door w.door) l)) (sym one)
          (new_door (lasting_in g.M.Machine.kept) ts c.args.server.now.store 0 c.args.first.passes.items (door w.door) c.make_worker-worker.ensures.door c.requires.shares.0, tt);
      made = λ made knows. subst (λ l. KnowsMade (record { store = c.args.server.now.store; pools = pools_of (lasting_in g.M.Machine.kept) ts }) made (map (λ w. door w.door) l)) (sym one)
          (first_knows (lasting_in g.M.Machine.kept) ts c.args.server.now.store c.args.first.passes.items (door w.door) c.make_worker-worker.ensures.door made knows);
      clocks = subst (All (λ w. g.C.Clock.ahead w.clock ≡ g.C.Clock.ahead c.args.clock.now)) (sym c.push_reserved.ensures.items)
          (All-push (λ w. g.C.Clock.ahead w.clock ≡ g.C.Clock.ahead c.args.clock.now) c.args.room.items w (λ i d low. absurd (omega (arith, low, c.requires.empty, c.args.room.ok.0))) c.make_worker-worker.ensures.clock);
      acceptors = moved_on g.A.Acceptor.state (λ w. g.A.Acceptor.state w.acceptor) c.args.acceptors.items (into_iter_items c.into_iter-acceptors.result) (into_iter_items c.next.new.self) c.in-Some.acceptor c.args.room.items more w
          c.in-Some.ensures.items c.push_reserved.ensures.items c.make_worker-worker.ensures.acceptor
          (sym (ap (λ l. map g.A.Acceptor.state l) c.into_iter-acceptors.ensures.rest) ∙ ap (λ l. map (λ w. g.A.Acceptor.state w.acceptor) l ++ map g.A.Acceptor.state (into_iter_items c.into_iter-acceptors.result)) (sym (no_items c.args.room.items (omega (arith, c.requires.empty, c.args.room.ok.0)))));
    }

pub loop-passes-preserved : goal.loop-passes-preserved
loop-passes-preserved g c =
    let i = c.loop-passes.invariant in
    let ts = c.args.server.now.turnstiles.items in
    let door = (ghosts g.row.M g.row.K g.row.T g.M.Machine g.M.Machine-dict g.K.Keeper g.K.Keeper-dict g.T.Wait g.T.Wait-dict g.M.Destruct-dict g.K.Destruct-dict).state in
    let w = c.make_worker-worker-in-Some-next.result in
    let done = c.loop-passes.workers.items in
    let more = c.push_reserved-in-Some-next.new.self.items in
    let pushed = c.push_reserved-in-Some-next.ensures.items in
    let longer : length more ≡ length done + 1 = ap length pushed ∙ length_push done w in
    let both = rest_shares (lasting_in g.M.Machine.kept) ts (λ s. s.passes.items) (length done) (length more)
    (into_iter_items c.loop-passes.others) (into_iter_items c.next-in-loop-passes.new.self) c.in-Some-next.passes c.in-Some-next.ensures.items longer i.shares in
    record {
      some = omega (arith, longer);
      left = omega (arith, i.left, c.in-Some-next.ensures.len, ap length c.in-Some-next.ensures.items);
      acceptors_left = omega (arith, i.acceptors_left, c.in-Some-next-2.ensures.len, ap length c.in-Some-next-2.ensures.items);
      count = omega (arith, i.count, c.in-Some-next.ensures.len, c.in-Some-next-2.ensures.len);
      room = omega (arith, i.room, c.in-Some-next.ensures.len, c.push_reserved-in-Some-next.ensures.len, c.push_reserved-in-Some-next.ensures.capacity);
      shares = both.1;
      doors = doors_push (record { store = c.args.server.now.store; pools = pools_of (lasting_in g.M.Machine.kept) ts }) (λ w. door w.door) (identities_of ts) (length done) done more w pushed refl i.doors
          (new_door (lasting_in g.M.Machine.kept) ts c.args.server.now.store (length done) c.in-Some-next.passes.passes.items (door w.door) c.make_worker-worker-in-Some-next.ensures.door both.0);
      made = λ made knows. knows_push (record { store = c.args.server.now.store; pools = pools_of (lasting_in g.M.Machine.kept) ts }) (λ w. door w.door) made done more w pushed i.some (i.made made knows);
      clocks = subst (All (λ w. g.C.Clock.ahead w.clock ≡ g.C.Clock.ahead c.args.clock.now)) (sym pushed)
          (All-push (λ w. g.C.Clock.ahead w.clock ≡ g.C.Clock.ahead c.args.clock.now) done w i.clocks c.make_worker-worker-in-Some-next.ensures.clock);
      acceptors = moved_on g.A.Acceptor.state (λ w. g.A.Acceptor.state w.acceptor) c.args.acceptors.items (into_iter_items c.loop-passes.acceptors) (into_iter_items c.next-in-Some-next.new.self) c.in-Some-next-2.acceptor done more w
          c.in-Some-next-2.ensures.items pushed c.make_worker-worker-in-Some-next.ensures.acceptor i.acceptors;
    }

pub returns : goal.returns
returns g c =
    let i = c.loop-passes.invariant in record {
      doors = i.doors;
      made = i.made;
      clocks = i.clocks;
      acceptors = moved_all g.A.Acceptor.state (λ w. g.A.Acceptor.state w.acceptor) c.args.acceptors.items (into_iter_items c.loop-passes.acceptors) c.loop-passes.workers.items (omega (arith, i.acceptors_left, i.count, c.in_default-next.ensures.cases)) i.acceptors;
    }
