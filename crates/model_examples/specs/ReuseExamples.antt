-- Tasks that are sent again, and outcomes that are taken over.
use Rattle.std.specs.Prelude.{ℕ, ℤ, Bool, true, List, [], ◌∷◌, ◌++◌, drop, Some, codes}
use Rattle.model_examples.specs.Types.{Properties, NewTask, PoolSettings, Request, Reply}
use Rattle.swarm_model.specs.declared.request.Request.TheVariants as ask
use Rattle.swarm_model.specs.Examples.{settings, properties, small_task, exited_with}
use Rattle.model_examples.specs.BotExamples.{from, greets, claims}
use Rattle.model_examples.specs.EndExamples.{reports}

-- the small task, under a uuid
abbrev pub named_task : NewTask
named_task = record (small_task 600) { request_uuid = codes "9e8b2f52-7a3c-4d7e-9a55-0c2b6f1d3e4a" }

-- another task under that uuid
abbrev pub other_task : NewTask
other_task = record named_task { priority = 1 }

-- a pool in which an outcome may be taken for a minute
abbrev pub minute : PoolSettings
minute = record settings { reuse_age_secs = 60 }

-- what a run does whose outcome others may take
abbrev pub pure : Properties
pure = record properties { idempotent = true }

-- a task that runs it
abbrev pub pure_task : Bool → NewTask
pure_task waits =
    record (small_task 600) {
      task_slices = (record { expiration_secs = 600; wait_for_capacity = waits; properties = pure }) ∷ [];
    }

abbrev pub asks : Request
asks = ask.New (pure_task true)

-- bot b1 runs the task at 1000, and it ends with this exit code
abbrev pub ran : ℤ → List (ℕ × Request)
ran code =
    (1000, greets (codes "b1") (codes "s")) ∷ (1000, asks) ∷ (1000, claims (codes "b1") (codes "c1")) ∷ (1001, reports (Some (exited_with code))) ∷ []

-- what follows is answered
abbrev pub replies_after : ℤ → List (ℕ × Request) → List Reply
replies_after code asked = drop 4 (from minute (ran code ++ asked)).replies
