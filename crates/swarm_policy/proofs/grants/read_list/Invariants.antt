use Rattle.std.proofs.Common.{◌≡◌, map, drop, length}
use Rattle.toml.specs.View.{view}
use Rattle.swarm_policy.specs.Grants.{grants_of, grants_from}
use Rattle.swarm_policy.proofs.GrantSteps.{AreRead}
use Rattle.swarm_policy.proofs.grants.read_list.Given as goal

abbrev pub invariant-loop-value : goal.invariant-loop-value
invariant-loop-value l =
    (grants_of (map view l.values) ≡ grants_from l.so_far (map view (drop l.value-index l.values)))
    × AreRead (length l.values) l.value-index l.so_far
