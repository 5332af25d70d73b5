-- One pool more is open.
use Rattle.std.proofs.Common.{length, refl, arith, ap}
use Rattle.shared_doors.specs.Machines.{lasting_in, log_in}
use Rattle.shared_doors.proofs.OpenPools.{opened_all, opened_more, opened_none, rules_at}
use Rattle.shared_doors.proofs.opening.open_all.Goals as goal

pub loop-pool-init : goal.loop-pool-init
loop-pool-init g c = record {
  left = omega (arith, c.into_iter-rest.ensures.len, c.args.keepers.ok.0, c.requires.keepers, ap length c.as_slice-pools.ensures);
  turnstiles = c.in_ok-turnstiles.ensures.len;
  passes = c.in_ok-passes.ensures.len;
  turnstiles_room = c.in_ok-turnstiles.ensures.capacity;
  passes_room = c.in_ok-passes.ensures.capacity;
  opened =
      opened_none (lasting_in g.M.Machine.kept) (log_in g.M.Machine.kept) _ _ _ refl
      c.in_ok-turnstiles.ensures.items c.in_ok-passes.ensures.items;
}

pub loop-pool-preserved : goal.loop-pool-preserved
loop-pool-preserved g c =
    let i = c.loop-pool.invariant in
    let o = c.in_ok-turnstile.ensures in
    let rules =
    rules_at c.args.settings.now c.as_slice-pools.result.now c.loop-pool.pool-index c.pool-item.result c.requires.rules c.as_slice-pools.ensures c.loop-pool-test.true c.pool-item.is in
    record {
      left = omega (arith, i.left, c.in-Some.ensures.len);
      turnstiles = omega (arith, i.turnstiles, c.push_reserved.ensures.len);
      passes = omega (arith, i.passes, c.push_reserved-in-loop-pool.ensures.len);
      turnstiles_room = omega (arith, i.turnstiles_room, c.push_reserved.ensures.capacity);
      passes_room = omega (arith, i.passes_room, c.push_reserved-in-loop-pool.ensures.capacity);
      opened =
          opened_more (lasting_in g.M.Machine.kept) (log_in g.M.Machine.kept) c.as_slice-pools.result.now c.loop-pool.pool-index c.pool-item.result
          c.loop-pool.turnstiles.items c.push_reserved.new.self.items c.loop-pool.passes.items c.push_reserved-in-loop-pool.new.self.items _ _
          c.loop-pool-test.true c.pool-item.is rules c.push_reserved.ensures.items c.push_reserved-in-loop-pool.ensures.items
          o.own o.lasting o.empty o.fresh i.opened;
    }

pub returns : goal.returns
returns g c =
    opened_all (lasting_in g.M.Machine.kept) (log_in g.M.Machine.kept) c.as_slice-pools.result.now c.args.settings.now.pools c.loop-pool.pool-index
    c.loop-pool.turnstiles.items c.loop-pool.passes.items c.as_slice-pools.ensures c.loop-pool-test.false c.loop-pool.invariant.opened
