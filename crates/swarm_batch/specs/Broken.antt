-- The first rule that the lines of a file break.
use Rattle.std.specs.Prelude.{ℕ, ◌+◌, List, [], ◌∷◌, codes, Option, Some, None, is_some, if◌then◌else◌}
use Rattle.serde_json.specs.Data.{Data}
use Rattle.json_fields.specs.Readings.{reading}
use Rattle.json_fields.specs.Fields.{present, is_object}
use Rattle.swarm_batch.specs.Named.{uuid_key}
use Rattle.swarm_batch.specs.declared.faults.BatchRule.{BatchRule}
use Rattle.swarm_batch.specs.declared.faults.BatchRule.TheVariants as rule

-- no object, or one with a uuid of its own; a uuid that is null is as absent
abbrev pub value_rule : Data → Option BatchRule
value_rule d = if is_object d then (if is_some (present uuid_key d) then Some rule.Uuid else None) else Some rule.Object

abbrev pub rule_of : Option Data → Option BatchRule
rule_of None = Some rule.Json
rule_of (Some d) = value_rule d

abbrev pub line_rule : List ℕ → Option BatchRule
line_rule line = rule_of (reading line)

abbrev pub or_in : Option BatchRule → ℕ → Option (ℕ × BatchRule) → Option (ℕ × BatchRule)
or_in None line later = later
or_in (Some rule) line later = Some (line, rule)

-- the first line that breaks a rule, where the first of these lines has this number
abbrev pub first_broken : ℕ → List (List ℕ) → Option (ℕ × BatchRule)
first_broken line [] = None
first_broken line (l ∷ ls) = or_in (line_rule l) line (first_broken (line + 1) ls)

-- the word that is printed of a rule
abbrev pub rule_name : BatchRule → List ℕ
rule_name rule.Count = codes "count"
rule_name rule.Json = codes "json"
rule_name rule.Object = codes "object"
rule_name rule.Uuid = codes "uuid"
rule_name rule.Changed = codes "changed"
rule_name rule.Progress = codes "progress"
