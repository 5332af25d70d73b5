-- The ids of tasks and runs, and the place of the pool that they name.
use Rattle.std.specs.Prelude.{ℕ, ◌==◌, Bool, true, List, [], Option, Some, None, if◌then◌else◌, Result, Ok, Err, codes}
use Rattle.std.specs.List.{list_all}
use Rattle.serde_json.specs.Data.{Data}
use Rattle.server_calls.specs.Types.{Grammar, Range, PropFault, Broken}
use Rattle.json_fields.specs.Readings.{at, ◌>>=◌}
use Rattle.json_fields.specs.Fields.{required_text_at}
use Rattle.json_fields.specs.Ids.{id_of, run_of, place_of_number, task_of_number, place_of_id, task_of_id, try_of_id}
use Rattle.server_calls.specs.declared.ids.TaskId.{TaskId}
use Rattle.server_calls.specs.declared.ids.RunId.{RunId}
use Rattle.server_calls.specs.Members.{text_or_none, whole_or_none, some_of}

abbrev pub task_of : ℕ → TaskId
task_of id = record { place = place_of_id id; task = task_of_id id }

abbrev pub run_at : ℕ → RunId
run_at id = record { place = place_of_id id; run = (task_of_id id, try_of_id id) }

-- an id of a task: it names no run
abbrev pub is_of_task : ℕ → Bool
is_of_task id = try_of_id id == 0

-- the task that an id names
unfoldable pub task_id_in : Data → Result TaskId PropFault
task_id_in d = do
  text ← required_text_at (codes "task_id") d
  id ← at (codes "task_id") (id_of text)
  if is_of_task id then Ok (task_of id) else Err (Broken (codes "task_id") Grammar)

-- the run that an id names
unfoldable pub run_id_of : List ℕ → Result RunId PropFault
run_id_of text = do
  id ← at (codes "task_id") (run_of text)
  Ok (run_at id)

unfoldable pub run_id_in : List ℕ → Data → Result RunId PropFault
run_id_in key d = do
  text ← required_text_at key d
  run_id_of text

abbrev pub some_run : Option (List ℕ) → Result (Option RunId) PropFault
some_run None = Ok None
some_run (Some text) = some_of (run_id_of text)

unfoldable pub run_or_none : List ℕ → Data → Result (Option RunId) PropFault
run_or_none key d = do
  text ← text_or_none key d
  some_run text

abbrev pub task_numbered : Option ℕ → Option TaskId
task_numbered None = None
task_numbered (Some number) = Some (record { place = place_of_number number; task = task_of_number number })

-- the task whose number with its place is a cursor, where there is one
unfoldable pub cursor_in : Data → Result (Option TaskId) PropFault
cursor_in d = do
  number ← whole_or_none (codes "cursor") 1 1048576 d
  Ok (task_numbered number)

-- ---- one place

abbrev pub place_of_run : Option RunId → Option ℕ
place_of_run None = None
place_of_run (Some id) = Some id.place

abbrev pub number_of_run : Option RunId → Option (ℕ × ℕ)
number_of_run None = None
number_of_run (Some id) = Some id.run

abbrev pub place_of_task : Option TaskId → Option ℕ
place_of_task None = None
place_of_task (Some id) = Some id.place

abbrev pub number_of_task : Option TaskId → Option ℕ
number_of_task None = None
number_of_task (Some id) = Some id.task

-- an id names this place, or there is none
abbrev pub is_at : ℕ → Option ℕ → Bool
is_at place None = true
is_at place (Some other) = other == place

abbrev pub are_at : ℕ → List (Option ℕ) → Bool
are_at place places = list_all (is_at place) places

-- the one place that the ids name, below 4; 0 where there are none
unfoldable pub one_place : List (Option ℕ) → Result ℕ PropFault
one_place places =
    if are_at 0 places then Ok 0
    else (if are_at 1 places then Ok 1
    else (if are_at 2 places then Ok 2
    else (if are_at 3 places then Ok 3
    else Err (Broken [] Range))))
