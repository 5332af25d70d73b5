use Rattle.std.proofs.Common.{◌≡◌, ℕ, map, sum_by, take, length, arith, ap, subst}
use Rattle.std.specs.List.{AllByRecursion}
use Rattle.swarm_keeper.specs.Stores.{HasPlace}
use Rattle.swarm_cli.proofs.Names.{own_names-take}
use Rattle.swarm_cli.proofs.Attached.{places_stay, attached_none, attached_next, held_more}
use Rattle.swarm_cli.proofs.attaching.attach_all.Goals as goal

pub detach_all-requires-clause-own_names : goal.detach_all-requires-clause-own_names
detach_all-requires-clause-own_names g c = own_names-take c.args.pools.now c.len.result c.requires

pub detach_all-requires-clause-places : goal.detach_all-requires-clause-places
detach_all-requires-clause-places g c =
    let count : c.pools.pool-index ≡ c.len.result = omega (arith, c.len.ensures, c.pools.invariant.count, ap length c.in-Err.ensures.same, c.attach_one.new.keepers.ok.0) in
    let places = places_stay (g.P.Store.state c.pools.store) (g.P.Store.state c.attach_one.new.store) c.args.folder.now (take c.pools.pool-index c.args.pools.now) c.in-Err.ensures.places c.pools.invariant.so_far.places in
    subst (λ (n : ℕ). AllByRecursion (λ p. HasPlace (g.P.Store.state c.attach_one.new.store) c.args.folder.now p.name) (take n c.args.pools.now)) count places

pub returns-in-Err-clause-not_attached : goal.returns-in-Err-clause-not_attached
returns-in-Err-clause-not_attached g c =
    let count : c.len.result ≡ c.pools.pool-index = omega (arith, c.len.ensures, c.pools.invariant.count, ap length c.in-Err.ensures.same, c.attach_one.new.keepers.ok.0) in
    let pools_are = ap (λ (n : ℕ). take n c.args.pools.now) count in
    let tables_are = ap (map g.P.Keeper.Keeper.tables) c.in-Err.ensures.same in
    let faults_are = ap (sum_by g.P.Keeper.Keeper.faults) c.in-Err.ensures.same in
    attached_none c.args.folder.now (take c.pools.pool-index c.args.pools.now) (g.P.Store.state c.args.store.now) (g.P.Store.state c.pools.store) (g.P.Store.state c.attach_one.new.store)
    (g.P.Store.state c.detach_all.new.store) (map g.P.Keeper.Keeper.tables c.pools.keepers.items) (sum_by g.P.Keeper.Keeper.faults c.pools.keepers.items) c.in-Err.fault
    c.pools.invariant.so_far c.in-Err.ensures.not_attached (rw (← pools_are, ← tables_are, ← faults_are) c.detach_all.ensures)

pub pools-preserved : goal.pools-preserved
pools-preserved g c =
    let one = c.in_default.ensures.attached in
    record {
      count = omega (arith, held_more g.P.Keeper.Keeper.tables c.pools.keepers.items c.attach_one.new.keepers.items one.tables one.tables_are, c.pools.invariant.count);
      so_far =
          attached_next c.args.folder.now c.args.pools.now c.pools.pool-index c.pool-item.result (g.P.Store.state c.args.store.now) (g.P.Store.state c.pools.store) (g.P.Store.state c.attach_one.new.store)
          (map g.P.Keeper.Keeper.tables c.pools.keepers.items) (map g.P.Keeper.Keeper.tables c.attach_one.new.keepers.items)
          (sum_by g.P.Keeper.Keeper.faults c.pools.keepers.items) (sum_by g.P.Keeper.Keeper.faults c.attach_one.new.keepers.items)
          c.pools-test.true c.pool-item.is c.requires c.pools.invariant.so_far one c.in_default.ensures.places;
    }
