-- What a new pool does with small tasks.
use Rattle.std.specs.Prelude.{ℕ, Bool, List, [], ◌∷◌, Option, codes}
use Rattle.std.specs.Option.{option_map, option_map_or}
use Rattle.model_examples.specs.Types.{Slice, NewTask, PoolState, Answer, TaskState}
use Rattle.swarm_model.specs.declared.request.Request.TheVariants as ask
use Rattle.swarm_model.specs.Finding.{task_of}
use Rattle.swarm_model.specs.Deadlines.{due_entry}
use Rattle.swarm_model.specs.Answers.{answer}
use Rattle.swarm_model.specs.Effects.{opening, after}
use Rattle.swarm_model.specs.Examples.{settings, properties, small_task}

-- the answer to that task where a pool has these rows
abbrev pub answered : PoolState → Answer
answered s = answer s (codes "ana") 1000 0 (ask.New (small_task 600))

-- the pool after an answer
abbrev pub with_answer : PoolState → Answer → PoolState
with_answer s a = option_map_or (after s) a.entry s

abbrev pub first_answer : Answer
first_answer = answered (opening settings)

abbrev pub second_answer : Answer
second_answer = answered (with_answer (opening settings) first_answer)

-- tasks of two slices of 60 seconds

abbrev pub slice_for : Bool → List ℕ → Slice
slice_for waits command =
    record { expiration_secs = 60; wait_for_capacity = waits; properties = record properties { command = command ∷ [] } }

-- whether each of the two waits for capacity
abbrev pub two_slices : Bool → Bool → NewTask
two_slices first second =
    record (small_task 60) { task_slices = slice_for first (codes "true") ∷ slice_for second (codes "false") ∷ [] }

-- a new pool that was sent a task at 1000
abbrev pub sent : NewTask → PoolState
sent request = with_answer (opening settings) (answer (opening settings) (codes "ana") 1000 0 (ask.New request))

abbrev pub settle_one : ℕ → PoolState → PoolState
settle_one moment s = option_map_or (after s) (due_entry s moment 0) s

-- what its row says at a moment, once what is due is settled: its state, its slice and its end
abbrev pub seen_at : ℕ → PoolState → Option (TaskState × (ℕ × Option ℕ))
seen_at moment s = option_map (λ task. (task.state, (task.slice, task.ended))) (task_of (settle_one moment (settle_one moment s)) 1)
