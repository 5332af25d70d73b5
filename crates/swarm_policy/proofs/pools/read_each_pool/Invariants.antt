use Rattle.std.proofs.Common.{◌≡◌, ◌≤◌, [], map, drop, length, true}
use Rattle.toml.specs.View.{view}
use Rattle.swarm_policy.specs.Pools.{are_pools, pools_from}
use Rattle.swarm_policy.proofs.pools.read_each_pool.Given as goal

abbrev pub invariant-loop-table : goal.invariant-loop-table
invariant-loop-table l =
    (pools_from [] (map view l.tables) ≡ pools_from l.pools.items (map view (drop l.table-index l.tables)))
    × (length l.pools.items ≡ l.table-index)
    × (length l.tables ≤ 4)
    × (are_pools l.pools.items ≡ true)
