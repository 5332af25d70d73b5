-- The keepers of the pools so far were handed out.
use Rattle.std.proofs.Common.{◌≡◌, map, sum_by, take, length}
use Rattle.swarm_cli.specs.Attaching.{AttachesAll}
use Rattle.swarm_cli.proofs.attaching.attach_all.Given as goal

abbrev pub invariant-pools : goal.invariant-pools
invariant-pools g l = record {
  count : length l.keepers.items ≡ l.pool-index;
  so_far : AttachesAll (g.P.Store.state l.fn.store) (g.P.Store.state l.store) l.folder (take l.pool-index l.pools)
      (map g.P.Keeper.Keeper.tables l.keepers.items) (sum_by g.P.Keeper.Keeper.faults l.keepers.items);
}
