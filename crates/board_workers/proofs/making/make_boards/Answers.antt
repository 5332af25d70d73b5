-- A board more is made.
use Rattle.std.proofs.Common.{◌++◌, ◌∙◌, length, map, ap, arith}
use Rattle.std.specs.Vec.Iter.{into_iter_items}
use Rattle.swarm_workers.proofs.NewDoors.{no_items}
use Rattle.board_workers.proofs.Moving.{moved, moved_all}
use Rattle.board_workers.proofs.making.make_boards.Goals as goal

pub loop-views-init : goal.loop-views-init
loop-views-init g c = record {
  left = omega (arith, c.into_iter-rest.ensures.len, c.args.views.ok.0, ap length c.into_iter-rest.ensures.rest);
  acceptors_left = omega (arith, c.into_iter-acceptors.ensures.len, c.args.acceptors.ok.0, ap length c.into_iter-acceptors.ensures.rest);
  count = omega (arith, c.into_iter-acceptors.ensures.len, c.args.acceptors.ok.0, c.into_iter-rest.ensures.len, c.args.views.ok.0, c.requires.count);
  room = omega (arith, c.requires.empty, c.requires.room, c.requires.count, c.into_iter-rest.ensures.len, c.args.views.ok.0);
  views = ap (λ l. map (λ b. b.views) l ++ into_iter_items c.into_iter-rest.result) (no_items c.args.room.items (omega (arith, c.requires.empty, c.args.room.ok.0))) ∙ c.into_iter-rest.ensures.rest;
  acceptors = ap (λ l. map (λ b. b.acceptor) l ++ into_iter_items c.into_iter-acceptors.result) (no_items c.args.room.items (omega (arith, c.requires.empty, c.args.room.ok.0))) ∙ c.into_iter-acceptors.ensures.rest;
}

pub loop-views-preserved : goal.loop-views-preserved
loop-views-preserved g c =
    let i = c.loop-views.invariant in
    let pushed = c.push_reserved.ensures.items in
    record {
      left = omega (arith, i.left, c.in-Some.ensures.len, ap length c.in-Some.ensures.items);
      acceptors_left = omega (arith, i.acceptors_left, c.in-Some-next.ensures.len, ap length c.in-Some-next.ensures.items);
      count = omega (arith, i.count, c.in-Some.ensures.len, c.in-Some-next.ensures.len);
      room = omega (arith, i.room, c.in-Some.ensures.len, c.push_reserved.ensures.len, c.push_reserved.ensures.capacity);
      views = moved (λ b. b.views) c.loop-views.boards.items c.push_reserved.new.self.items _ (into_iter_items c.loop-views.rest) (into_iter_items c.next.new.self) c.args.views.items pushed c.in-Some.ensures.items i.views;
      acceptors = moved (λ b. b.acceptor) c.loop-views.boards.items c.push_reserved.new.self.items _ (into_iter_items c.loop-views.acceptors) (into_iter_items c.next-in-Some.new.self) c.args.acceptors.items pushed c.in-Some-next.ensures.items i.acceptors;
    }

pub returns : goal.returns
returns g c =
    let i = c.loop-views.invariant in record {
      views = moved_all (λ b. b.views) c.loop-views.boards.items (into_iter_items c.loop-views.rest) c.args.views.items (omega (arith, i.left, c.in_default.ensures.cases)) i.views;
      acceptors = moved_all (λ b. b.acceptor) c.loop-views.boards.items (into_iter_items c.loop-views.acceptors) c.args.acceptors.items (omega (arith, i.acceptors_left, i.count, c.in_default.ensures.cases)) i.acceptors;
    }
