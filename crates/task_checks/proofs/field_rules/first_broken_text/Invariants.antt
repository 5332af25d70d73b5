use Rattle.std.proofs.Common.{◌≡◌, drop}
use Rattle.task_props.specs.FieldRules.{first_broken_text}
use Rattle.task_checks.proofs.field_rules.first_broken_text.Given as goal

abbrev pub invariant-loop-text : goal.invariant-loop-text
invariant-loop-text l = (l.place ≡ l.text-index) × (first_broken_text 0 l.texts ≡ first_broken_text l.text-index (drop l.text-index l.texts))
