-- Whole numbers within their ranges.
use Rattle.std.specs.Prelude.{ℕ, ℤ, pos, negsuc, ◌&&◌, nat_le, List, if◌then◌else◌, Result, Ok, Err}
use Rattle.task_props.specs.declared.prop_rule.PropRule.{PropRule}
use Rattle.task_props.specs.declared.prop_rule.PropRule.TheVariants.{Range}
use Rattle.task_props.specs.declared.prop_fault.PropFault.{PropFault}
use Rattle.json_fields.specs.Readings.{at}

-- a number from the lowest to the highest
unfoldable pub whole_in : ℕ → ℕ → ℤ → Result ℕ PropRule
whole_in lowest highest (pos n) = if nat_le lowest n && nat_le n highest then Ok n else Err Range
whole_in lowest highest (negsuc n) = Err Range

abbrev pub whole_at : List ℕ → ℕ → ℕ → ℤ → Result ℕ PropFault
whole_at key lowest highest number = at key (whole_in lowest highest number)
