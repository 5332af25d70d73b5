-- Whole numbers in digits.
use Rattle.std.specs.Prelude.{ℕ, ◌==◌, ◌&&◌, nat_lt, nat_le, not, ℤ, pos, neg_ℤ, List, length, slice_index, drop, Bool, false, if◌then◌else◌, Result, Ok, Err}
use Rattle.std.specs.List.{list_all}
use Rattle.std.specs.Char.{is_ascii_digit}
use Rattle.std.specs.Str.Parse.{digits_value}
use Rattle.task_props.specs.declared.prop_rule.PropRule.{PropRule}
use Rattle.task_props.specs.declared.prop_rule.PropRule.TheVariants.{WrongType}

-- 1 to 20 digits with no needless 0
abbrev pub is_whole_text : List ℕ → Bool
is_whole_text s = if nat_lt 0 (length s) && nat_le (length s) 20 && list_all is_ascii_digit s then not (nat_lt 1 (length s) && (slice_index s 0 == 48)) else false

-- such digits, or such but 0 after a minus
unfoldable pub text_number : List ℕ → Result ℤ PropRule
text_number s = if is_whole_text s then Ok (pos (digits_value 10 s))
    else (if (slice_index s 0 == 45) && is_whole_text (drop 1 s) && not (slice_index (drop 1 s) 0 == 48) then Ok (neg_ℤ (pos (digits_value 10 (drop 1 s))))
    else Err WrongType)
