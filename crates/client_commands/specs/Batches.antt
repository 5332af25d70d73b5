-- The commands of batches.
use Rattle.std.specs.Prelude.{ℕ, zero, suc, ◌+◌, ◌-◌, List, [], ◌∷◌, ◌++◌, length, codes, decimal, Option, Some, None, option_map, Result, Ok, Err, if◌then◌else◌, vec_items}
use Rattle.sw_base.specs.declared.file_fault.FileFault.{FileFault}
use Rattle.sw_base.specs.declared.file_fault.FileFault.TheVariants as fault
use Rattle.swarm_model.specs.declared.task_view.TaskView.{TaskView}
use Rattle.json_fields.specs.Ids.{task_id}
use Rattle.server_calls.specs.declared.told.Told.{Told}
use Rattle.swarm_batch.specs.declared.faults.BatchRule.{BatchRule}
use Rattle.swarm_batch.specs.declared.faults.BatchRule.TheVariants as rule
use Rattle.swarm_batch.specs.declared.faults.BatchFault.{BatchFault}
use Rattle.swarm_batch.specs.declared.faults.BatchFault.TheVariants as batch_fault
use Rattle.swarm_batch.specs.declared.mark.Mark.{Mark}
use Rattle.swarm_batch.specs.declared.mark.Mark.TheVariants as mark
use Rattle.swarm_batch.specs.Batches.{BatchValue, body_data}
use Rattle.swarm_batch.specs.Broken.{rule_name}
use Rattle.swarm_batch.specs.Marks.{any_refused, mark_line, mark_lines, progress_text}
use Rattle.swarm_batch.specs.Told.{is_again, told_mark}
use Rattle.client_commands.specs.declared.server.Server.{Server}
use Rattle.client_commands.specs.Requests.{Call, task_call, value}
use Rattle.client_commands.specs.Plans.{Plan, end, say, ask, load, save, find_name, read_batch, read_marks, Loaded, Saved, World, Follows, once_told, unless_refused}
use Rattle.client_commands.specs.Commands.{or_no_reply, refusing, once_loaded, result_line, awaiting}

-- ---- the file of a batch, and its progress

-- the path of the progress of a file
abbrev pub done_path : List ℕ → List ℕ
done_path path = path ++ codes ".done"

-- the line for a rule that a batch breaks, at a line of its file
abbrev pub batch_line : ℕ → BatchRule → List ℕ
batch_line line rule = codes "batch " ++ (decimal line ++ (codes " " ++ (rule_name rule ++ codes "\n")))

abbrev pub breaking : ℕ → BatchRule → Plan
breaking line rule = say (batch_line line rule) (end 3)

-- a file or its progress is refused
abbrev pub faulting : BatchFault → Plan
faulting batch_fault.Memory = end 5
faulting (batch_fault.Broken line rule) = breaking line rule

-- what follows what was read of a file or of a progress, unless it is refused
abbrev pub once_read : {A : Type 0} → (A → Plan) → Result A BatchFault → Plan
once_read next (Ok a) = next a
once_read next (Err fault) = faulting fault

-- the file is loaded
abbrev pub loading : List ℕ → (List ℕ → Plan) → Plan
loading path next = load path 1048576 (once_loaded (refusing path (codes "absent")) (breaking 0 rule.Count) next)

-- what follows the load of a progress, of which there may be none
abbrev pub once_done_loaded : List ℕ → (Option (List ℕ) → Plan) → Loaded → Plan
once_done_loaded path next (Ok found) = next (option_map vec_items found)
once_done_loaded path next (Err fault.TooLong) = refusing path (codes "count")
once_done_loaded path next (Err fault.Failed) = end 4
once_done_loaded path next (Err fault.Memory) = end 5

-- the progress at a path is loaded
abbrev pub loading_done : List ℕ → (Option (List ℕ) → Plan) → Plan
loading_done path next = load path 1048576 (once_done_loaded path next)

-- a batch with other marks
abbrev pub with_marks : BatchValue → List Mark → BatchValue
with_marks b marks = record b { marks = marks }

-- the batch takes the marks that its progress tells
abbrev pub recalling : BatchValue → Option (List ℕ) → (BatchValue → Plan) → Plan
recalling b progress next = read_marks b progress (once_read (λ marks. next (with_marks b marks)))

-- the batch of a file under a name, with what its progress tells
abbrev pub reading_both : List ℕ → List ℕ → Option (List ℕ) → (BatchValue → Plan) → Plan
reading_both text name progress next = read_batch text name (once_read (λ b. recalling b progress next))

-- the progress is loaded and read only where the file breaks no rule
abbrev pub opening_progress : List ℕ → BatchValue → (BatchValue → Plan) → Plan
opening_progress path b next = loading_done path (λ progress. recalling b progress next)

abbrev pub opening : List ℕ → List ℕ → List ℕ → (BatchValue → Plan) → Plan
opening path done name next = loading path (λ text. read_batch text name (once_read (λ b. opening_progress done b next)))

-- the name that the first line of a progress has; without one the progress is refused
abbrev pub once_named : (List ℕ → Plan) → Option (List ℕ) → Plan
once_named next None = breaking 0 rule.Progress
once_named next (Some name) = next name

abbrev pub naming : (List ℕ → Plan) → Option (List ℕ) → Plan
naming next None = breaking 0 rule.Progress
naming next (Some progress) = find_name progress (once_named next)

-- the batch of a file under the name that its progress has
abbrev pub reading_named : List ℕ → Option (List ℕ) → (BatchValue → Plan) → Plan
reading_named text progress next = naming (λ name. reading_both text name progress next) progress

abbrev pub opening_named : List ℕ → List ℕ → (BatchValue → Plan) → Plan
opening_named path done next = loading path (λ text. loading_done done (λ progress. reading_named text progress next))

-- ---- sending

-- a line of a batch, counted from 1, is asked for under its uuid
abbrev pub line_call : BatchValue → ℕ → Call
line_call b line = task_call (value (body_data b line))

-- the status of a save that failed
abbrev pub fault_status : FileFault → ℕ
fault_status fault.Memory = 5
fault_status other = 4

-- what follows a save
abbrev pub once_saved : Plan → Saved → Plan
once_saved next (Ok u) = next
once_saved next (Err why) = end (fault_status why)

-- the progress is saved whole
abbrev pub saving : List ℕ → BatchValue → Plan → Plan
saving path b next = save path (progress_text b.head b.marks) (once_saved next)

-- the line that came next has this mark, which is saved before anything follows
abbrev pub keeping : List ℕ → BatchValue → (BatchValue → Plan) → Mark → Plan
keeping path b next m = let c = with_marks b (b.marks ++ m ∷ []) in saving path c (next c)

-- what follows what a line was told: where it is to be sent again, the code is printed with status 6, and what tells nothing of a task counts as no reply
abbrev pub after_line : List ℕ → BatchValue → (BatchValue → Plan) → Told → Plan
after_line path b next t = if is_again t then unless_refused (λ place reply bytes. end 9) t else or_no_reply (keeping path b next) (told_mark t)

-- 6 where a line was refused
abbrev pub marks_status : List Mark → ℕ
marks_status marks = if any_refused marks then 6 else 0

-- what has become of the lines is printed
abbrev pub telling : BatchValue → Plan
telling b = say (mark_lines 1 b.marks) (end (marks_status b.marks))

-- so many lines are left, of which each is sent, marked and saved before the next; and then all is printed
abbrev pub sending : List ℕ → ℕ → BatchValue → Plan
sending path zero b = telling b
sending path (suc left) b = ask (line_call b (length b.marks + 1)) (once_told (after_line path b (λ c. sending path left c)))

-- how many lines are not done
abbrev pub lines_left : BatchValue → ℕ
lines_left b = length b.lines - length b.marks

-- the file is read under a name, and then its progress, before anything is sent
abbrev pub spawning : List ℕ → List ℕ → Plan
spawning path name = opening path (done_path path) name (λ b. sending (done_path path) (lines_left b) b)

-- ---- collecting

-- the line of a task that has ended, by the number of its line in the file
abbrev pub ended_line : ℕ → List ℕ → TaskView → List ℕ
ended_line line id task = decimal line ++ (codes " " ++ result_line id task)

-- what has become of a line is printed: a refusal at once, and a task when it has ended
abbrev pub collecting_line : ℕ → ℕ → ℕ → Mark → Plan → Plan
collecting_line polls every line (mark.Refused code) next = say (mark_line line (mark.Refused code)) next
collecting_line polls every line (mark.Task place task) next = awaiting (task_id place task) every (λ view. say (ended_line line (task_id place task) view) next) polls

-- the lines in their order, the first of which has this number
abbrev pub collecting_lines : ℕ → ℕ → ℕ → List Mark → Plan
collecting_lines polls every line [] = end 0
collecting_lines polls every line (m ∷ ms) = collecting_line polls every line m (collecting_lines polls every (line + 1) ms)

-- the file is read under the name that its progress has, and what has become of each line is printed
abbrev pub collecting_batch : List ℕ → ℕ → ℕ → Plan
collecting_batch path polls every = opening_named path (done_path path) (λ b. collecting_lines polls every 1 b.marks)

-- ---- what each command promises

abbrev pub SpawnsTasks : Server → List ℕ → List ℕ → World → World → ℕ → Type 0
SpawnsTasks server name path w v status = Follows server (spawning path name) w v status

abbrev pub CollectsBatch : Server → List ℕ → ℕ → ℕ → World → World → ℕ → Type 0
CollectsBatch server path polls every w v status = Follows server (collecting_batch path polls every) w v status
