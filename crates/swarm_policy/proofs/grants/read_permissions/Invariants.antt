use Rattle.std.proofs.Common.{◌≡◌, map, drop}
use Rattle.toml.specs.View.{view}
use Rattle.swarm_policy.specs.Grants.{permissions_of}
use Rattle.swarm_policy.proofs.Steps.{then_more}
use Rattle.swarm_policy.proofs.grants.read_permissions.Given as goal

abbrev pub invariant-loop-value : goal.invariant-loop-value
invariant-loop-value l =
    permissions_of (map view l.values) ≡ then_more l.permissions.items (permissions_of (map view (drop l.value-index l.values)))
