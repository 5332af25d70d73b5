-- The exit codes of runs.
use Rattle.std.specs.Prelude.{ℤ, pos, negsuc, int_le, ◌&&◌, Option, Some, None, if◌then◌else◌, Result, Ok, Err}
use Rattle.task_props.specs.declared.prop_rule.PropRule.{PropRule}
use Rattle.task_props.specs.declared.prop_rule.PropRule.TheVariants.{Range}

-- a number of 32 bits with a sign, where there is one
unfoldable pub code_of : Option ℤ → Result (Option ℤ) PropRule
code_of None = Ok None
code_of (Some number) = if int_le (negsuc 2147483647) number && int_le number (pos 2147483647) then Ok (Some number) else Err Range
