-- The keepers of the pools so far were taken back, and those of the pools behind them are left.
use Rattle.std.proofs.Common.{◌≡◌, ◌+◌, map, length, sum_by, take, drop}
use Rattle.std.specs.Vec.Iter.{into_iter_items, into_iter_len}
use Rattle.swarm_keeper.specs.Stores.{PlacesStay}
use Rattle.swarm_cli.specs.Attaching.{DetachesAll}
use Rattle.swarm_cli.proofs.attaching.detach_all.Given as goal

abbrev pub invariant-pools : goal.invariant-pools
invariant-pools g l = record {
  left : into_iter_items l.rest ≡ drop l.pool-index l.fn.keepers.items;
  count : into_iter_len l.rest + l.pool-index ≡ length l.pools;
  places : PlacesStay (g.P.Store.state l.fn.store) (g.P.Store.state l.store);
  so_far : DetachesAll (g.P.Store.state l.fn.store) (g.P.Store.state l.store) l.folder (take l.pool-index l.pools)
      (map g.P.Keeper.Keeper.tables (take l.pool-index l.fn.keepers.items)) (sum_by g.P.Keeper.Keeper.faults (take l.pool-index l.fn.keepers.items));
}
