use Rattle.std.proofs.Common.{◌≡◌, map}
use Rattle.toml.specs.View.{members_view}
use Rattle.swarm_policy.specs.Fields.{first_unknown}
use Rattle.swarm_policy.proofs.fields.first_unknown.Given as goal

abbrev pub invariant-loop-key : goal.invariant-loop-key
invariant-loop-key l =
    first_unknown (map (λ s. s.now) l.known) (members_view l.table.entries) ≡ first_unknown (map (λ s. s.now) l.known) (members_view l.key-iterator)
