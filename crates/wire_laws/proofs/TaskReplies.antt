-- A task is told as it is shown.
use Rattle.std.proofs.Common.{◌≡◌, ℕ, ◌-◌, nat_lt, ℤ, pos, negsuc, true, List, [], ◌∷◌, Option, Some, None, option_map, Ok, IfSome, refl, ap, ◌∙◌, arith}
use Rattle.std.specs.Prelude.{codes}
use Rattle.std.specs.Str.{IsUtf8}
use Rattle.std.proofs.lemmas.Bool.{and_from}
use Rattle.serde_json.specs.Data.{Data, string, object}
use Rattle.json_values.specs.Values.{whole, signed, or_null}
use Rattle.wire_laws.specs.Types.{File, TaskState, TaskView}
use Rattle.swarm_model.specs.declared.reply.Reply.TheVariants as reply
use Rattle.routes.specs.declared.route.Route.TheVariants as route
use Rattle.json_fields.specs.Fields.{present, required_text_in, optional_number_in, list_in, unknown_key, object_item}
use Rattle.json_fields.specs.Ids.{run_id}
use Rattle.line_parts.specs.Finding.{IsInt}
use Rattle.line_parts.specs.Names.{state_reads_back}
use Rattle.reply_bodies.specs.Items.{file_data}
use Rattle.reply_bodies.specs.Views.{task_members, last_members, task_data, run_data}
use Rattle.reply_bodies.specs.Bodies.{body_of, reply_members}
use Rattle.server_calls.specs.Reading.{told_of, in_value}
use Rattle.server_calls.specs.Members.{with_keys, whole_in, digest_in, file_in, state_in, text_or_none, whole_or_none}
use Rattle.server_calls.specs.Places.{task_of, run_at, task_id_in, run_or_none}
use Rattle.server_calls.specs.Tasks.{checked_task, task_ids_in, task_place_in, task_moments_in, exit_code_in, task_end_in, task_names_in, priority_in, current_slice_in, output_length_in, task_numbers_in, task_view_in, new_in, result_in}
use Rattle.wire_laws.specs.Fitting.{IsLong, IsPlace, IsTaskNumber, IsRun, FitsFile, FitsTask}
use Rattle.wire_laws.specs.Told.{IsTold}
use Rattle.wire_laws.proofs.Readable.{IsReadable, are_readable, reading-compact_text}
use Rattle.wire_laws.proofs.Words.{state_utf8}
use Rattle.wire_laws.proofs.DigestTexts.{digest_is, digest_utf8}
use Rattle.wire_laws.proofs.IdTexts.{task_id_utf8, run_id_utf8}
use Rattle.wire_laws.proofs.ReadIds.{task_number, run_number, task_text_is, task_at, task_is, some_run_is, number_is, run_is_at}
use Rattle.wire_laws.proofs.MemberLemmas.{long_is, word_is, size_is, maybe_text, maybe_shown, maybe_whole, maybe_long, maybe_signed, exit_code_is, object_item_is, reads_list, one_place_is}

-- ---- a new task

pub new_is_told : (place task : ℕ) (state : TaskState) (pieces : List (List ℕ)) → IsPlace place → IsTaskNumber task → IsTold route.NewTask place (reply.New task state) pieces
unfolding told_of body_of new_in with_keys unknown_key state_in task_id_in required_text_in present
new_is_told place task state pieces p t =
    ap (in_value new_in) (reading-compact_text (object (reply_members place (reply.New task state) pieces)) (refl, refl, (state_utf8 state, (task_id_utf8 place task p t, tt))))
    ∙ rw (
      state_reads_back state,
      task_text_is place task p t,
      one_place_is place p (Some (task_of (task_number place task)).place ∷ []) (and_from _ _ (task_at place task t) refl) refl,
      task_is place task 0 t (omega arith),
    ) refl

-- ---- the view of a task: it can be read

pub file_readable : (n : ℕ) → nat_lt 0 n ≡ true → (file : File) → FitsFile file → IsReadable n (file_data file)
file_readable n room file h = (room, refl, (digest_utf8 file.digest h.digest, (h.path, (omega (arith, h.size), tt))))

pub maybe_readable : {A : Type 0} (n : ℕ) (show : A → Data) (P : A → Type 0) → ((a : A) → P a → IsReadable n (show a)) → (o : Option A) → IfSome o P → IsReadable n (or_null show o)
maybe_readable n show P each None h = tt
maybe_readable n show P each (Some a) h = each a h

signed_fits : (n : ℕ) (z : ℤ) → IsInt z → IsReadable n (signed z)
signed_fits n (pos m) h = omega (arith, h)
signed_fits n (negsuc m) h = omega (arith, h)

run_readable : (n place : ℕ) → IsPlace place → (run : ℕ × ℕ) → IsRun run → IsReadable n (run_data place run)
run_readable n place p run h = run_id_utf8 place run p h

pub maybe_run_readable : (n place : ℕ) → IsPlace place → (o : Option (ℕ × ℕ)) → IfSome o IsRun → IsReadable n (or_null (run_data place) o)
maybe_run_readable n place p o h = maybe_readable n (run_data place) IsRun (run_readable n place p) o h

maybe_long_readable : (n : ℕ) (o : Option ℕ) → IfSome o IsLong → IsReadable n (or_null whole o)
maybe_long_readable n o h = maybe_readable n whole IsLong (λ _ fits. fits) o h

pub task_readable : (n : ℕ) → nat_lt 0 n ≡ true → nat_lt 0 (n - 1) ≡ true → nat_lt 0 (n - 1 - 1) ≡ true → (place : ℕ) → IsPlace place → (task : TaskView) → FitsTask task → IsReadable n (task_data place task)
unfolding task_members last_members
task_readable n outer middle inner place p task h = (
  outer,
  refl,
  (
    maybe_readable (n - 1) string IsUtf8 (λ _ fits. fits) task.bot_id h.bot_id,
    (
      maybe_long_readable (n - 1) task.completed_ts h.completed_ts,
      (
        h.created_ts,
        (
          omega (arith, h.current_task_slice),
          (
            maybe_run_readable (n - 1) place p task.deduped_from h.deduped_from,
            (
              maybe_long_readable (n - 1) task.dropped h.dropped,
              (
                maybe_long_readable (n - 1) task.duration_ms h.duration_ms,
                (
                  maybe_readable (n - 1) signed IsInt (signed_fits (n - 1)) task.exit_code h.exit_code,
                  (
                    (middle, are_readable file_data FitsFile (n - 1 - 1) (file_readable (n - 1 - 1) inner) task.files h.files),
                    (
                      h.name,
                      (
                        omega (arith, h.output_length),
                        (
                          omega (arith, h.priority),
                          (
                            maybe_run_readable (n - 1) place p task.run_id h.run_id,
                            (
                              maybe_long_readable (n - 1) task.started_ts h.started_ts,
                              (
                                state_utf8 task.state,
                                (
                                  task_id_utf8 place task.task_id p h.task_id,
                                  (h.user, tt),
                                ),
                              ),
                            ),
                          ),
                        ),
                      ),
                    ),
                  ),
                ),
              ),
            ),
          ),
        ),
      ),
    ),
  ),
)

pub file_is : (file : File) → FitsFile file → file_in (file_data file) ≡ Ok file
unfolding file_in digest_in whole_in required_text_in optional_number_in present
file_is file h = rw (digest_is file.digest h.digest, size_is file.size h.size) refl

-- ---- it is read as the task

task_ids_are : (place : ℕ) (task : TaskView) → IsPlace place → FitsTask task
    → task_ids_in (task_data place task) ≡ Ok (record { task = task_of (task_number place task.task_id); run = option_map (λ run. run_at (run_number place run)) task.run_id; source = option_map (λ run. run_at (run_number place run)) task.deduped_from })
unfolding task_ids_in task_id_in run_or_none text_or_none required_text_in present task_members last_members
task_ids_are place task p h =
    rw (
      task_text_is place task.task_id p h.task_id,
      maybe_shown (run_id place) task.run_id,
      some_run_is place task.run_id p h.run_id,
      maybe_shown (run_id place) task.deduped_from,
      some_run_is place task.deduped_from p h.deduped_from,
    ) refl

task_moments_are : (place : ℕ) (task : TaskView) → FitsTask task
    → task_moments_in (task_data place task) ≡ Ok (record { created = task.created_ts; started = task.started_ts; completed = task.completed_ts })
unfolding task_moments_in whole_in whole_or_none optional_number_in present task_members last_members
task_moments_are place task h =
    rw (
      long_is task.created_ts h.created_ts,
      maybe_whole task.started_ts,
      maybe_long (codes "started_ts") task.started_ts h.started_ts,
      maybe_whole task.completed_ts,
      maybe_long (codes "completed_ts") task.completed_ts h.completed_ts,
    ) refl

task_end_is : (place : ℕ) (task : TaskView) → FitsTask task
    → task_end_in (task_data place task) ≡ Ok (record { exit_code = task.exit_code; duration_ms = task.duration_ms; dropped = task.dropped; files = task.files })
unfolding task_end_in exit_code_in whole_or_none optional_number_in list_in present task_members last_members
task_end_is place task h =
    rw (
      maybe_signed task.exit_code,
      exit_code_is task.exit_code h.exit_code,
      maybe_whole task.duration_ms,
      maybe_long (codes "duration_ms") task.duration_ms h.duration_ms,
      maybe_whole task.dropped,
      maybe_long (codes "dropped") task.dropped h.dropped,
      reads_list file_data (object_item file_in) FitsFile (λ file fits. object_item_is file_in _ file (file_is file fits)) (codes "files") task.files h.files,
    ) refl

task_names_are : (place : ℕ) (task : TaskView) → task_names_in (task_data place task) ≡ Ok (record { bot = task.bot_id; name = task.name; user = task.user })
unfolding task_names_in text_or_none required_text_in present task_members last_members
task_names_are place task = rw (maybe_text task.bot_id) refl

task_numbers_are : (place : ℕ) (task : TaskView) → FitsTask task
    → task_numbers_in (task_data place task) ≡ Ok (record { priority = task.priority; slice = task.current_task_slice; output_length = task.output_length })
unfolding task_numbers_in priority_in current_slice_in output_length_in whole_in optional_number_in present task_members last_members
task_numbers_are place task h =
    rw (word_is task.priority h.priority, word_is task.current_task_slice h.current_task_slice, word_is task.output_length h.output_length) refl

task_state_is : (place : ℕ) (task : TaskView) → state_in (task_data place task) ≡ Ok task.state
unfolding state_in required_text_in present task_members last_members
task_state_is place task = rw (state_reads_back task.state) refl

checked_is : (place : ℕ) (task : TaskView) → checked_task (task_data place task) ≡ Ok (task_data place task)
unfolding checked_task with_keys unknown_key task_members last_members
checked_is place task = refl

pub task_view_is : (place : ℕ) (task : TaskView) → IsPlace place → FitsTask task → task_view_in (task_data place task) ≡ Ok task
unfolding task_view_in
task_view_is place task p h =
    rw (
      checked_is place task,
      task_ids_are place task p h,
      task_state_is place task,
      task_moments_are place task h,
      task_end_is place task h,
      task_names_are place task,
      task_numbers_are place task h,
      number_is place task.run_id h.run_id,
      number_is place task.deduped_from h.deduped_from,
      task_is place task.task_id 0 h.task_id (omega arith),
    ) refl

pub task_place_is : (place : ℕ) (task : TaskView) → IsPlace place → FitsTask task → task_place_in (task_data place task) ≡ Ok place
unfolding task_place_in
task_place_is place task p h =
    rw (task_ids_are place task p h)
    (one_place_is place p _ (and_from _ _ (task_at place task.task_id h.task_id) (and_from _ _ (run_is_at place task.run_id h.run_id) (and_from _ _ (run_is_at place task.deduped_from h.deduped_from) refl))) refl)

-- ---- the reply

pub result_is_told : (place : ℕ) (task : TaskView) (pieces : List (List ℕ)) → IsPlace place → FitsTask task → IsTold route.GetResult place (reply.Result task) pieces
unfolding told_of body_of result_in
result_is_told place task pieces p h =
    ap (in_value result_in) (reading-compact_text (task_data place task) (task_readable 127 refl refl refl place p task h))
    ∙ rw (task_place_is place task p h, task_view_is place task p h) refl
