-- What the replies of the calls on tasks tell.
use Rattle.std.specs.Prelude.{ℕ, ℤ, pos, negsuc, int_le, ◌&&◌, if◌then◌else◌, Bool, List, [], ◌∷◌, Option, Some, None, Result, Ok, Err, codes}
use Rattle.base64.specs.declared.decode.DecodeError.{DecodeError}
use Rattle.base64.specs.Engines.{standard}
use Rattle.base64.specs.GeneralPurpose.{decode_of}
use Rattle.serde_json.specs.Data.{Data}
use Rattle.server_calls.specs.Types.{PropRule, Grammar, Range, PropFault, TaskState, TaskView}
use Rattle.swarm_model.specs.declared.reply.Reply.{Reply}
use Rattle.swarm_model.specs.declared.reply.Reply.TheVariants as reply
use Rattle.json_fields.specs.Readings.{at, ◌>>=◌}
use Rattle.json_fields.specs.Fields.{required_text_at, optional_number_at, object_item, each_at}
use Rattle.server_calls.specs.declared.told.Told.{Told}
use Rattle.server_calls.specs.declared.told.Told.TheVariants.{Good}
use Rattle.server_calls.specs.declared.task_views.TaskIds.{TaskIds}
use Rattle.server_calls.specs.declared.task_views.TaskMoments.{TaskMoments}
use Rattle.server_calls.specs.declared.task_views.TaskEnd.{TaskEnd}
use Rattle.server_calls.specs.declared.task_views.TaskNames.{TaskNames}
use Rattle.server_calls.specs.declared.task_views.TaskNumbers.{TaskNumbers}
use Rattle.server_calls.specs.Members.{with_keys, flag_in, whole_in, whole_or_none, text_or_none, state_in, file_in}
use Rattle.server_calls.specs.Places.{task_id_in, run_or_none, place_of_run, number_of_run, one_place}

-- a reply with which no bytes come, from the pool at a place
abbrev pub good : ℕ → Reply → Told
good place answered = Good place answered []

-- ---- the view of a task

abbrev pub task_keys : List (List ℕ)
task_keys =
    codes "bot_id" ∷ codes "completed_ts" ∷ codes "created_ts" ∷ codes "current_task_slice" ∷ codes "deduped_from" ∷ codes "dropped"
    ∷ codes "duration_ms" ∷ codes "exit_code" ∷ codes "files" ∷ codes "name" ∷ codes "output_length" ∷ codes "priority"
    ∷ codes "run_id" ∷ codes "started_ts" ∷ codes "state" ∷ codes "task_id" ∷ codes "user" ∷ []

-- a task has no members but these
unfoldable pub checked_task : Data → Result Data PropFault
checked_task d = with_keys task_keys d

-- the task, its run, and the run whose result it has
unfoldable pub task_ids_in : Data → Result TaskIds PropFault
task_ids_in d = do
  task ← task_id_in d
  run ← run_or_none (codes "run_id") d
  source ← run_or_none (codes "deduped_from") d
  Ok (record { task = task; run = run; source = source })

abbrev pub places_of : TaskIds → List (Option ℕ)
places_of ids = Some ids.task.place ∷ place_of_run ids.run ∷ place_of_run ids.source ∷ []

-- the place that its ids name
unfoldable pub task_place_in : Data → Result ℕ PropFault
task_place_in d = do
  ids ← task_ids_in d
  one_place (places_of ids)

unfoldable pub task_moments_in : Data → Result TaskMoments PropFault
task_moments_in d = do
  created ← whole_in (codes "created_ts") 18446744073709551615 d
  started ← whole_or_none (codes "started_ts") 0 18446744073709551615 d
  completed ← whole_or_none (codes "completed_ts") 0 18446744073709551615 d
  Ok (record { created = created; started = started; completed = completed })

-- a number of 32 bits with a sign, where there is one
unfoldable pub code_of : Option ℤ → Result (Option ℤ) PropRule
code_of None = Ok None
code_of (Some number) = if int_le (negsuc 2147483647) number && int_le number (pos 2147483647) then Ok (Some number) else Err Range

unfoldable pub exit_code_in : Data → Result (Option ℤ) PropFault
exit_code_in d = do
  number ← optional_number_at (codes "exit_code") d
  at (codes "exit_code") (code_of number)

unfoldable pub task_end_in : Data → Result TaskEnd PropFault
task_end_in d = do
  exit_code ← exit_code_in d
  duration_ms ← whole_or_none (codes "duration_ms") 0 18446744073709551615 d
  dropped ← whole_or_none (codes "dropped") 0 18446744073709551615 d
  files ← each_at (object_item file_in) (codes "files") d
  Ok (record { exit_code = exit_code; duration_ms = duration_ms; dropped = dropped; files = files })

unfoldable pub task_names_in : Data → Result TaskNames PropFault
task_names_in d = do
  bot ← text_or_none (codes "bot_id") d
  name ← required_text_at (codes "name") d
  user ← required_text_at (codes "user") d
  Ok (record { bot = bot; name = name; user = user })

unfoldable pub priority_in : Data → Result ℕ PropFault
priority_in d = whole_in (codes "priority") 4294967295 d

unfoldable pub current_slice_in : Data → Result ℕ PropFault
current_slice_in d = whole_in (codes "current_task_slice") 4294967295 d

unfoldable pub output_length_in : Data → Result ℕ PropFault
output_length_in d = whole_in (codes "output_length") 4294967295 d

unfoldable pub task_numbers_in : Data → Result TaskNumbers PropFault
task_numbers_in d = do
  priority ← priority_in d
  slice ← current_slice_in d
  output_length ← output_length_in d
  Ok (record { priority = priority; slice = slice; output_length = output_length })

abbrev pub task_view : TaskIds → TaskState → TaskMoments → TaskEnd → TaskNames → TaskNumbers → TaskView
task_view ids state moments end_ names numbers = record {
  bot_id = names.bot;
  completed_ts = moments.completed;
  created_ts = moments.created;
  current_task_slice = numbers.slice;
  deduped_from = number_of_run ids.source;
  dropped = end_.dropped;
  duration_ms = end_.duration_ms;
  exit_code = end_.exit_code;
  files = end_.files;
  name = names.name;
  output_length = numbers.output_length;
  priority = numbers.priority;
  run_id = number_of_run ids.run;
  started_ts = moments.started;
  state = state;
  task_id = ids.task.task;
  user = names.user;
}

-- a task as it is shown
unfoldable pub task_view_in : Data → Result TaskView PropFault
task_view_in d = do
  o ← checked_task d
  ids ← task_ids_in d
  state ← state_in d
  moments ← task_moments_in d
  end_ ← task_end_in d
  names ← task_names_in d
  numbers ← task_numbers_in d
  Ok (task_view ids state moments end_ names numbers)

-- ---- replies

-- NewTask
unfoldable pub new_in : Data → Result Told PropFault
new_in d = do
  o ← with_keys (codes "state" ∷ codes "task_id" ∷ []) d
  state ← state_in d
  id ← task_id_in d
  place ← one_place (Some id.place ∷ [])
  Ok (good place (reply.New id.task state))

abbrev pub cancel_keys : List (List ℕ)
cancel_keys = codes "canceled" ∷ codes "was_running" ∷ []

unfoldable pub checked_cancel : Data → Result Data PropFault
checked_cancel d = with_keys cancel_keys d

-- whether the task or its run ends by this, and whether it was running
unfoldable pub cancel_flags_in : Data → Result (Bool × Bool) PropFault
cancel_flags_in d = do
  ends ← flag_in (codes "canceled") d
  ran ← flag_in (codes "was_running") d
  Ok (ends, ran)

-- CancelTask
unfoldable pub canceled_in : Data → Result Told PropFault
canceled_in d = do
  o ← checked_cancel d
  flags ← cancel_flags_in d
  Ok (good 0 (reply.Canceled flags.0 flags.1))

-- GetResult
unfoldable pub result_in : Data → Result Told PropFault
result_in d = do
  place ← task_place_in d
  task ← task_view_in d
  Ok (good place (reply.Result task))

abbrev pub or_grammar : Result (List ℕ) DecodeError → Result (List ℕ) PropRule
or_grammar (Ok bytes) = Ok bytes
or_grammar (Err e) = Err Grammar

-- the bytes of which the text is the standard base64, with its padding
abbrev pub bytes_of : List ℕ → Result (List ℕ) PropRule
bytes_of text = or_grammar (decode_of standard text)

-- GetStdout: the parts of the output are not told, its bytes are
unfoldable pub stdout_in : Data → Result Told PropFault
stdout_in d = do
  o ← with_keys (codes "output" ∷ codes "state" ∷ []) d
  state ← state_in d
  text ← required_text_at (codes "output") d
  bytes ← at (codes "output") (bytes_of text)
  Ok (Good 0 (reply.Stdout state []) bytes)

-- CountTasks
unfoldable pub count_in : Data → Result Told PropFault
count_in d = do
  o ← with_keys (codes "count" ∷ []) d
  count ← whole_in (codes "count") 18446744073709551615 d
  Ok (good 0 (reply.Count count))
