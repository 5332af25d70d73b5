-- Runs that are lost and tried again.
use Rattle.std.specs.Prelude.{ℕ, Bool, true, List, [], ◌∷◌, ◌++◌, map, Option, Some, None, codes}
use Rattle.model_examples.specs.Types.{TaskState, Properties, Slice, NewTask, Request, Reply}
use Rattle.swarm_model.specs.declared.request.Request.TheVariants as ask
use Rattle.swarm_model.specs.declared.reply.Reply.TheVariants as reply
use Rattle.swarm_model.specs.Examples.{settings, properties, small_task}
use Rattle.model_examples.specs.BotExamples.{Script, from, greets, claims, with_tolerance}

-- a pool that tries a lost run again
abbrev pub retries : List (ℕ × Request) → Script
retries asked = from (record settings { retries = 1 }) asked

abbrev pub again : Properties
again = record properties { idempotent = true }

abbrev pub slice_of : ℕ → Properties → Slice
slice_of secs properties = record { expiration_secs = secs; wait_for_capacity = true; properties = properties }

-- a task of these slices, with a tolerance of 60 seconds
abbrev pub tolerant : List Slice → NewTask
tolerant slices = record (with_tolerance 60 (small_task 600)) { task_slices = slices }

abbrev pub retry_task : NewTask
retry_task = tolerant (slice_of 600 again ∷ [])

-- bot b1 begins the task at 1000, and bot b2 is there
abbrev pub begun_by : NewTask → List (ℕ × Request)
begun_by task =
    (1000, greets (codes "b1") (codes "s")) ∷ (1000, greets (codes "b2") (codes "s")) ∷ (1000, ask.New task) ∷ (1000, claims (codes "b1") (codes "c1")) ∷ []

-- the state, the run and the end that a view shows
abbrev pub shown : Reply → Option (TaskState × (Option (ℕ × ℕ) × Option ℕ))
shown (reply.Result view) = Some (view.state, (view.run_id, view.completed_ts))
shown other = None
