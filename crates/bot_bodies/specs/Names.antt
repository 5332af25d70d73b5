-- The names of bots, of their sessions and of their claims.
use Rattle.std.specs.Prelude.{ℕ, List, [], if◌then◌else◌, Result, Ok, Err}
use Rattle.std.specs.List.{list_all}
use Rattle.dimensions.specs.Rules.{has_length_to, is_key_byte}
use Rattle.task_props.specs.declared.prop_rule.PropRule.{PropRule}
use Rattle.task_props.specs.declared.prop_rule.PropRule.TheVariants.{Count, Grammar}
use Rattle.task_props.specs.declared.prop_fault.PropFault.{PropFault}
use Rattle.dimensions.specs.Rules.{is_empty}
use Rattle.json_fields.specs.Readings.{at}

-- 1 to 64 ASCII letters, digits, '-', '_' and '.'
unfoldable pub name_of : List ℕ → Result (List ℕ) PropRule
name_of text = if has_length_to 64 text then (if list_all is_key_byte text then Ok text else Err Grammar) else Err Count

abbrev pub name_at : List ℕ → List ℕ → Result (List ℕ) PropFault
name_at key text = at key (name_of text)

-- a name, or the empty text for none
unfoldable pub optional_name_at : List ℕ → List ℕ → Result (List ℕ) PropFault
optional_name_at key text = if is_empty text then Ok [] else name_at key text
