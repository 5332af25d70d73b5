-- The ids of tasks and of their runs.
use Rattle.std.specs.Prelude.{ℕ, ◌+◌, ◌-◌, ◌*◌, ◌/◌, ◌%◌, ◌==◌, ◌&&◌, nat_le, not, Bool, false, List, ◌++◌, length, slice_index, if◌then◌else◌, Result, Ok, Err, codes}
use Rattle.std.specs.List.{list_all}
use Rattle.std.specs.Str.Parse.{digits_value}
use Rattle.std.specs.Fmt.{digits}
use Rattle.task_props.specs.declared.prop_rule.PropRule.{PropRule}
use Rattle.task_props.specs.Digests.{is_hex_digit}
use Rattle.task_props.specs.declared.prop_rule.PropRule.TheVariants.{Grammar}

-- ---- shown

-- the task and the place of its pool as one number
abbrev pub shown_number : ℕ → ℕ → ℕ
shown_number place task = place * 262144 + task

-- that number in lower-case hexadecimal, then 0
unfoldable pub task_id : ℕ → ℕ → List ℕ
task_id place task = digits 16 false (shown_number place task) ++ codes "0"

-- the same of a run's task, then the number of its try
unfoldable pub run_id : ℕ → ℕ × ℕ → List ℕ
run_id place run = digits 16 false (shown_number place run.0) ++ digits 16 false run.1

-- ---- the parts of an id

-- the last digit is the number of the try, where 0 names the task itself
abbrev pub try_of_id : ℕ → ℕ
try_of_id id = id % 16

-- the digits before it write the number of the place and the task, which is counted from 1
abbrev pub place_of_number : ℕ → ℕ
place_of_number number = (number - 1) / 262144

abbrev pub task_of_number : ℕ → ℕ
task_of_number number = (number - 1) % 262144 + 1

abbrev pub place_of_id : ℕ → ℕ
place_of_id id = place_of_number (id / 16)

abbrev pub task_of_id : ℕ → ℕ
task_of_id id = task_of_number (id / 16)

-- ---- read

-- 2 to 7 hexadecimal digits in lower case, the first not 0
abbrev pub has_id_form : List ℕ → Bool
has_id_form s = (nat_le 2 (length s) && nat_le (length s) 7) && (list_all is_hex_digit s && not (slice_index s 0 == 48))

-- a run is the first or the second of its task
abbrev pub is_try : ℕ → Bool
is_try try_no = nat_le 1 try_no && nat_le try_no 2

-- the number that the digits write, where the last one is 0, 1 or 2
unfoldable pub id_of : List ℕ → Result ℕ PropRule
id_of s = if has_id_form s && nat_le (digits_value 16 s % 16) 2 then Ok (digits_value 16 s) else Err Grammar

-- the same of a run, where the last digit is the number of its try
unfoldable pub run_of : List ℕ → Result ℕ PropRule
run_of s = if has_id_form s && is_try (digits_value 16 s % 16) then Ok (digits_value 16 s) else Err Grammar
