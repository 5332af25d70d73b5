-- One number more is split off.
use Rattle.std.proofs.Common.{◌≡◌, ◌+◌, ◌∙◌, length, ap, arith}
use Rattle.shared_doors.specs.Machines.{lasting_in}
use Rattle.shared_doors.specs.Views.{view_at, views}
use Rattle.swarm_workers.proofs.NewDoors.{first_share, may_split, new_share, shares_push, split_first}
use Rattle.swarm_workers.proofs.making.split_all.Goals as goal

pub loop-number-init : goal.loop-number-init
loop-number-init g c = record {
  own = c.requires.own;
  count = omega (arith, c.in_ok-others.ensures.len);
  room = c.in_ok-others.ensures.capacity;
  first = c.requires.first;
  shares = rw (c.in_ok-others.ensures.items) tt;
}

pub split-requires : goal.split-requires
split-requires g c = record {
  own = c.loop-number.invariant.own;
  first = λ p low. may_split c.loop-number.number (view_at (views c.loop-number.first.passes.items) p) (c.loop-number.invariant.first p low) (omega (arith, c.loop-number-test.true, c.requires.number));
}

pub loop-number-preserved : goal.loop-number-preserved
loop-number-preserved g c =
    let i = c.loop-number.invariant in
    let n = c.loop-number.number in
    let ts = c.args.server.now.turnstiles.items in
    let s = c.in-Ok.ensures in
    let old = c.loop-number.others.items in
    let given = c.in-Ok.given in
    let kept = c.in-Ok.kept in
    let counted : n ≡ 1 + length old = omega (arith, i.count, c.loop-number.others.ok.0) in
    record {
      own = s.kept;
      count = omega (arith, i.count, c.push_reserved.ensures.len);
      room = omega (arith, i.room, c.push_reserved.ensures.capacity);
      first = λ p low. split_first n (view_at (views c.loop-number.first.passes.items) p) (view_at (views kept.passes.items) p) (view_at (views given.passes.items) p) (i.first p low) (s.split p low);
      shares = shares_push (lasting_in g.M.Machine.kept) ts (λ s. s.passes.items) 1 n old c.push_reserved.new.self.items given c.push_reserved.ensures.items counted i.shares
          (new_share (lasting_in g.M.Machine.kept) ts n c.loop-number.first.passes.items kept.passes.items given.passes.items i.first s.split s.given);
    }

pub returns : goal.returns
returns g c =
    let i = c.loop-number.invariant in
    let done : c.loop-number.number ≡ c.args.workers = omega (arith, c.loop-number-test.false, c.requires.number) in
    record {
      count = omega (arith, done, i.count, c.loop-number.others.ok.0);
      shares = (first_share (lasting_in g.M.Machine.kept) c.args.server.now.turnstiles.items c.loop-number.number c.loop-number.first.passes.items i.first i.own, i.shares);
      made = λ p low. ap (λ v. v.made) (i.first p low) ∙ done;
    }
