use Rattle.std.proofs.Common.{◌≡◌, map}
use Rattle.serde_json.specs.View.{members_view}
use Rattle.json_fields.specs.Fields.{first_unknown}
use Rattle.json_fields.proofs.keys.first_unknown.Given as goal

abbrev pub invariant-loop-key : goal.invariant-loop-key
invariant-loop-key l =
    first_unknown (map (λ s. s.now) l.known) (members_view l.members.entries) ≡ first_unknown (map (λ s. s.now) l.known) (members_view l.key-iterator)
