use Rattle.std.proofs.Common.{◌≡◌, map, drop}
use Rattle.std.specs.List.{list_any}
use Rattle.dimensions.specs.Alike.{same}
use Rattle.swarm_policy.proofs.fields.is_known.Given as goal

abbrev pub invariant-loop-name : goal.invariant-loop-name
invariant-loop-name l =
    list_any (λ name. same name l.key) (map (λ s. s.now) l.known) ≡ list_any (λ name. same name l.key) (map (λ s. s.now) (drop l.name-index l.known))
