-- Runs that are reported, stopped and canceled.
use Rattle.std.specs.Prelude.{ℕ, pos, List, [], ◌∷◌, ◌++◌, drop, Option, Some, None, codes}
use Rattle.std.specs.List.{filter_map}
use Rattle.std.specs.Option.{option_map}
use Rattle.swarm_model.specs.declared.attempt.Last.{Last}
use Rattle.model_examples.specs.Types.{Request, Reply, TaskState, PoolState}
use Rattle.swarm_model.specs.declared.request.Request.TheVariants as ask
use Rattle.swarm_model.specs.declared.reply.Reply.TheVariants as reply
use Rattle.swarm_model.specs.Finding.{task_of}
use Rattle.swarm_model.specs.Examples.{small_task, exited_with}
use Rattle.model_examples.specs.BotExamples.{script, greets, claims}

-- what bot b1 reports on task 1
abbrev pub reports : Option Last → Request
reports last = ask.Update (codes "b1") 1 1 None last

-- bot b1 begins task 1 at 1000
abbrev pub begun : List (ℕ × Request)
begun =
    (1000, greets (codes "b1") (codes "s")) ∷ (1000, ask.New (small_task 600)) ∷ (1000, claims (codes "b1") (codes "c1")) ∷ []

-- what follows is answered
abbrev pub replies_after : List (ℕ × Request) → List Reply
replies_after asked = drop 3 (script (begun ++ asked)).replies

-- the pool to which it leads
abbrev pub pool_after : List (ℕ × Request) → PoolState
pool_after asked = (script (begun ++ asked)).pool

-- and the state of task 1 in it
abbrev pub state_after : List (ℕ × Request) → Option TaskState
state_after asked = option_map (λ task. task.state) (task_of (pool_after asked) 1)

-- a task of this priority
abbrev pub of_priority : ℕ → Request
of_priority number = ask.New (record (small_task 600) { priority = number })

-- bot b1 claims a task, and reports the end of that of a number
abbrev pub turn : List ℕ → ℕ → List (ℕ × Request)
turn claim number = (1000, claims (codes "b1") claim) ∷ (1000, ask.Update (codes "b1") number 1 None (Some (exited_with (pos 0)))) ∷ []

abbrev pub task_run : Reply → Option ℕ
task_run (reply.Run task try_no slice tolerance properties) = Some task
task_run other = None

-- the tasks that are run, in their order
abbrev pub tasks_run : List Reply → List ℕ
tasks_run replies = filter_map task_run replies
