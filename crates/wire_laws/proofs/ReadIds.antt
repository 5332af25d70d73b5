-- The ids in a reply are read as the tasks and runs that they show.
use Rattle.std.proofs.Common.{◌≡◌, ℕ, ◌+◌, ◌*◌, ◌<◌, true, Option, Some, None, option_map, Ok, Err, IfSome, refl, ap, ◌∙◌, arith}
use Rattle.std.specs.Prelude.{if◌then◌else◌, codes}
use Rattle.std.proofs.lemmas.Bool.{eq-eqb}
use Rattle.task_props.specs.declared.prop_rule.PropRule.TheVariants.{Grammar}
use Rattle.task_props.specs.declared.prop_fault.PropFault.TheVariants.{Broken}
use Rattle.json_fields.specs.Readings.{at, ◌>>=◌}
use Rattle.json_fields.specs.Ids.{shown_number, task_id, run_id, id_of, place_of_id, task_of_id, try_of_id, place_of_number, task_of_number}
use Rattle.server_calls.specs.Places.{task_of, run_at, is_of_task, run_id_of, some_run, place_of_run, number_of_run, task_numbered, place_of_task, number_of_task, is_at}
use Rattle.wire_laws.specs.Fitting.{IsPlace, IsTaskNumber, IsRun}
use Rattle.wire_laws.proofs.IdTexts.{task_id_is, run_id_is}

-- the numbers of the ids of a task and of a run
abbrev pub task_number : ℕ → ℕ → ℕ
task_number place task = shown_number place task * 16 + 0

abbrev pub run_number : ℕ → ℕ × ℕ → ℕ
run_number place run = shown_number place run.0 * 16 + run.1

pub place_is : (place task try_no : ℕ) → IsTaskNumber task → try_no < 3 → place_of_id (shown_number place task * 16 + try_no) ≡ place
place_is place task try_no t few = omega (arith, t.0, t.1, few)

pub task_is : (place task try_no : ℕ) → IsTaskNumber task → try_no < 3 → task_of_id (shown_number place task * 16 + try_no) ≡ task
task_is place task try_no t few = omega (arith, t.0, t.1, few)

pub try_is : (place task try_no : ℕ) → try_no < 3 → try_of_id (shown_number place task * 16 + try_no) ≡ try_no
try_is place task try_no few = omega (arith, few)

pub shown_place_is : (place task : ℕ) → IsTaskNumber task → place_of_number (shown_number place task) ≡ place
shown_place_is place task t = omega (arith, t.0, t.1)

pub shown_task_is : (place task : ℕ) → IsTaskNumber task → task_of_number (shown_number place task) ≡ task
shown_task_is place task t = omega (arith, t.0, t.1)

-- ---- a task

pub task_text_is : (place task : ℕ) → IsPlace place → IsTaskNumber task
    → (at (codes "task_id") (id_of (task_id place task)) >>= (λ id. if is_of_task id then Ok (task_of id) else Err (Broken (codes "task_id") Grammar))) ≡ Ok (task_of (task_number place task))
task_text_is place task p t =
    ap (λ r. at (codes "task_id") r >>= (λ id. if is_of_task id then Ok (task_of id) else Err (Broken (codes "task_id") Grammar))) (task_id_is place task p t)
    ∙ ap (λ b. if b then Ok (task_of (task_number place task)) else Err (Broken (codes "task_id") Grammar)) (eq-eqb (try_of_id (task_number place task)) 0 (try_is place task 0 (omega arith)))

pub task_at : (place task : ℕ) → IsTaskNumber task → is_at place (Some (task_of (task_number place task)).place) ≡ true
task_at place task t = eq-eqb (place_of_id (task_number place task)) place (place_is place task 0 t (omega arith))

-- ---- a run

pub run_text_is : (place : ℕ) (run : ℕ × ℕ) → IsPlace place → IsRun run → run_id_of (run_id place run) ≡ Ok (run_at (run_number place run))
unfolding run_id_of
run_text_is place run p h = ap (λ r. at (codes "task_id") r >>= (λ id. Ok (run_at id))) (run_id_is place run p h)

pub some_run_is : (place : ℕ) (o : Option (ℕ × ℕ)) → IsPlace place → IfSome o IsRun → some_run (option_map (run_id place) o) ≡ Ok (option_map (λ run. run_at (run_number place run)) o)
some_run_is place None p h = refl
some_run_is place (Some run) p h = rw (run_text_is place run p h) refl

pub number_is : (place : ℕ) (o : Option (ℕ × ℕ)) → IfSome o IsRun → number_of_run (option_map (λ run. run_at (run_number place run)) o) ≡ o
number_is place None h = refl
number_is place (Some run) h =
    let few : run.1 < 3 = omega (arith, h.2) in
    rw (task_is place run.0 run.1 h.0 few, try_is place run.0 run.1 few) refl

pub run_is_at : (place : ℕ) (o : Option (ℕ × ℕ)) → IfSome o IsRun → is_at place (place_of_run (option_map (λ run. run_at (run_number place run)) o)) ≡ true
run_is_at place None h = refl
run_is_at place (Some run) h = eq-eqb (place_of_id (run_number place run)) place (place_is place run.0 run.1 h.0 (omega (arith, h.2)))

-- ---- a cursor

pub cursor_number : (place : ℕ) (o : Option ℕ) → IfSome o IsTaskNumber → number_of_task (task_numbered (option_map (shown_number place) o)) ≡ o
cursor_number place None h = refl
cursor_number place (Some task) h = rw (shown_task_is place task h) refl

pub cursor_at : (place : ℕ) (o : Option ℕ) → IfSome o IsTaskNumber → is_at place (place_of_task (task_numbered (option_map (shown_number place) o))) ≡ true
cursor_at place None h = refl
cursor_at place (Some task) h = eq-eqb (place_of_number (shown_number place task)) place (shown_place_is place task h)
