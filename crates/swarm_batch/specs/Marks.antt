-- What has become of the lines of a batch, and the text of its progress.
use Rattle.std.specs.Prelude.{ℕ, ◌+◌, ◌&&◌, nat_le, nat_lt, not, Bool, true, false, List, [], ◌∷◌, ◌++◌, codes, decimal, Option, Some, None, option_map, option_and_then, if◌then◌else◌}
use Rattle.std.specs.List.{list_any}
use Rattle.refusal_codes.specs.declared.refusal_code.RefusalCode.{RefusalCode}
use Rattle.refusal_codes.specs.Codes.{code_name, code_named, is_transient_code}
use Rattle.json_fields.specs.Ids.{task_id}
use Rattle.swarm_batch.specs.declared.mark.Mark.{Mark}
use Rattle.swarm_batch.specs.declared.mark.Mark.TheVariants as mark

-- a task that an id can show, by the place of its pool and its number there
abbrev pub is_task : ℕ → ℕ → Bool
is_task place task = nat_lt place 4 && (nat_le 1 task && nat_le task 262144)

-- a mark that a line may have: after some refusals a line is sent again, and these are none
abbrev pub is_mark : Mark → Bool
is_mark (mark.Task place task) = is_task place task
is_mark (mark.Refused code) = not (is_transient_code code)

abbrev pub mark_word : Mark → List ℕ
mark_word (mark.Task place task) = task_id place task
mark_word (mark.Refused code) = codes "!" ++ code_name code

-- the code of this name, where a line is not sent again after it
abbrev pub unless_transient : RefusalCode → Option RefusalCode
unless_transient code = if is_transient_code code then None else Some code

abbrev pub final_code : List ℕ → Option RefusalCode
final_code name = option_and_then unless_transient (code_named name)

-- the mark of a refusal by this name
abbrev pub refused_by : List ℕ → Option Mark
refused_by name = option_map mark.Refused (final_code name)

-- the line of a mark, by the number of its line in the file
unfoldable pub mark_line : ℕ → Mark → List ℕ
mark_line line m = decimal line ++ (codes " " ++ (mark_word m ++ codes "\n"))

-- the lines of marks, the first of which has this number
abbrev pub mark_lines : ℕ → List Mark → List ℕ
mark_lines line [] = []
mark_lines line (m ∷ ms) = mark_line line m ++ mark_lines (line + 1) ms

-- the progress: the line that names the file and the batch, and then that of each mark
abbrev pub progress_text : List ℕ → List Mark → List ℕ
progress_text head marks = head ++ (codes "\n" ++ mark_lines 1 marks)

abbrev pub is_refused : Mark → Bool
is_refused (mark.Task place task) = false
is_refused (mark.Refused code) = true

-- a line was refused
abbrev pub any_refused : List Mark → Bool
any_refused marks = list_any is_refused marks
