use Rattle.std.proofs.Common.{◌≡◌, drop}
use Rattle.swarm_wire.specs.Pools.{place_from}
use Rattle.swarm_wire.proofs.pools.pool_place.Given as goal

abbrev pub invariant-loop-place : goal.invariant-loop-place
invariant-loop-place l = place_from 0 l.name l.pools ≡ place_from l.place l.name (drop l.place l.pools)
