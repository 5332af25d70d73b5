-- No pool so far is too large.
use Rattle.std.proofs.Common.{◌≡◌, drop}
use Rattle.swarm_cli.specs.LargePools.{large_path}
use Rattle.swarm_cli.proofs.large_pools.first_large.Given as goal

abbrev pub invariant-loop-pool : goal.invariant-loop-pool
invariant-loop-pool l = large_path l.pools ≡ large_path (drop l.pool-index l.pools)
