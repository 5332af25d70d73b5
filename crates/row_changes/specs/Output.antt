-- What a chunk needs that is to be kept of a run.
use Rattle.std.specs.Prelude.{◌≡◌, ℕ, ◌+◌, ◌<◌, ◌^◌, List, length, Option, IfSome}
use Rattle.std.specs.List.{find}
use Rattle.std.specs.Option.{option_and_then}
use Rattle.reserved_vec.specs.Room.{Takes}
use Rattle.swarm_model.specs.declared.task_row.TaskRow.{TaskRow}
use Rattle.swarm_model.specs.declared.attempt.Attempt.{Attempt}
use Rattle.swarm_model.specs.declared.attempt.Chunk.{Chunk}
use Rattle.swarm_model.specs.Finding.{is_task}
use Rattle.swarm_model.specs.Effects.{fresh_chunk}

-- the run of the task of a number
abbrev pub run_of : List TaskRow → ℕ → Option Attempt
run_of rows number = option_and_then (λ task. task.attempt) (find (is_task number) rows)

-- the output with the chunk is shorter than 2^32 bytes
abbrev pub FitsBehind : Chunk → Attempt → Type 0
FitsBehind chunk attempt = attempt.length + chunk.size < 2 ^ 32

-- where the chunk goes on from the output of the run, it fits behind it
abbrev pub StaysShort : Option Attempt → Option Chunk → Type 0
StaysShort run chunk = IfSome chunk (λ c. IfSome run (λ attempt. c.start ≡ attempt.length → FitsBehind c attempt))

-- the output of the run takes one chunk more, with a spare buffer of this size
abbrev pub TakesChunk : ℕ → Option Attempt → Type 0
TakesChunk spare run = IfSome run (λ attempt. Takes (length attempt.chunks) spare)

-- where the chunk goes on from the output of the run, it takes it
abbrev pub TakesFresh : ℕ → Option Attempt → Option Chunk → Type 0
TakesFresh spare run chunk = IfSome (fresh_chunk run chunk) (λ c. TakesChunk spare run)
