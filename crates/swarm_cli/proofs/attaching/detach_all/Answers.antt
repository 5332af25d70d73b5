use Rattle.std.proofs.Common.{◌∙◌, sym, arith, add-one}
use Rattle.std.specs.Vec.Iter.{into_iter_items}
use Rattle.swarm_cli.proofs.Attached.{drop_step, detached_next}
use Rattle.swarm_cli.proofs.attaching.detach_all.Goals as goal

pub pools-preserved : goal.pools-preserved
pools-preserved g c =
    let next = drop_step c.args.keepers.items c.pools.pool-index c.in-Some.keeper (into_iter_items c.next.new.self) (sym c.pools.invariant.left ∙ c.in-Some.ensures.items) in
    record {
      left = rw add-one next.1;
      count = omega (arith, c.pools.invariant.count, c.in-Some.ensures.len);
      places = λ folder pool there. c.detach.ensures.places folder pool (c.pools.invariant.places folder pool there);
      so_far =
          detached_next g.P.Keeper.Keeper.tables g.P.Keeper.Keeper.faults c.args.folder.now c.args.pools.now c.pools.pool-index c.pool-item.result c.args.keepers.items c.in-Some.keeper
          (g.P.Store.state c.args.store.now) (g.P.Store.state c.pools.store) (g.P.Store.state c.detach.new.self)
          c.pools-test.true c.pool-item.is c.requires.own_names next.0 c.pools.invariant.so_far (rw (← c.as_str.ensures) c.detach.ensures.detaches);
    }
