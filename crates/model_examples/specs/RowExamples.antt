-- The row of one task, from one entry to the next.
use Rattle.std.specs.Prelude.{ℕ, Bool, true, List, [], ◌∷◌, length, Option, None, codes}
use Rattle.std.specs.List.{fold}
use Rattle.std.specs.Option.{option_map, option_and_then}
use Rattle.model_examples.specs.Types.{TaskState, Pending, PoolState, EntryKind}
use Rattle.swarm_model.specs.declared.attempt.Chunk.{Chunk}
use Rattle.swarm_model.specs.declared.entry.EntryKind.TheVariants as kind
use Rattle.swarm_model.specs.Finding.{task_of}
use Rattle.swarm_model.specs.Effects.{opening, after}
use Rattle.swarm_model.specs.Examples.{settings}
use Rattle.model_examples.specs.Examples.{two_slices}
use Rattle.model_examples.specs.BotExamples.{has}

-- an entry of this kind at a moment
abbrev pub enters : PoolState → ℕ × EntryKind → PoolState
enters s entry = after s (record { moment = entry.0; pass = 0; kind = entry.1 })

-- a task of two slices is accepted at 1000, and these entries follow
abbrev pub accepted : List (ℕ × EntryKind) → PoolState
accepted entries =
    fold enters (opening settings) ((1000, kind.New 1 (codes "alice") (two_slices true true) Pending 0 None) ∷ entries)

abbrev pub session : ℕ × List ℕ → ℕ × EntryKind
session it = (it.0, kind.Handshake 1 (codes "b1") it.1 (has (codes "b1")) [])

-- bot 1 claims it at 1010, and these entries follow
abbrev pub claimed : List (ℕ × EntryKind) → PoolState
claimed entries =
    accepted (session (1000, codes "s1") ∷ (1010, kind.Claim 1 1 (codes "c1")) ∷ entries)

-- so many bytes from a place on
abbrev pub chunk : ℕ → ℕ → Chunk
chunk start size = record { start = start; size = size; digest = 7 ∷ [] }

-- the state and the slice of the task, the moment at which it came to that slice, and its end
abbrev pub shown : PoolState → Option (TaskState × (ℕ × (ℕ × Option ℕ)))
shown s = option_map (λ task. (task.state, (task.slice, (task.since, task.ended)))) (task_of s 1)

-- whether its run is to stop, the bytes and chunks of its output, and where its last chunk begins
abbrev pub output : PoolState → Option (Bool × (ℕ × (ℕ × Option ℕ)))
output s =
    option_map (λ run. (run.kill, (run.length, (length run.chunks, option_map (λ last. last.start) run.last_chunk))))
    (option_and_then (λ task. task.attempt) (task_of s 1))
