-- How many tasks are in a state.
use Rattle.std.specs.Prelude.{◌≡◌, ℕ, ◌+◌, false, Option, if◌then◌else◌}
use Rattle.std.specs.Option.{option_map_or, option_and_then}
use Rattle.index_laws.specs.Types.{TaskState, TaskRow, PoolState, Entry}
use Rattle.swarm_model.specs.Finding.{has_state, task_of}
use Rattle.swarm_model.specs.Effects.{after}
use Rattle.swarm_model.specs.History.{MayFollow, count_in}
use Rattle.swarm_model.specs.Soundness.{IsSound}
use Rattle.index_laws.specs.Touched.{touched_task}

-- the row of the touched task in a pool, where there is one
abbrev pub touched_row : PoolState → Option ℕ → Option TaskRow
touched_row s touched = option_and_then (task_of s) touched

-- what a row adds to the count of a state
abbrev pub count_of_row : TaskState → Option TaskRow → ℕ
count_of_row state row = if option_map_or (has_state state) row false then 1 else 0

-- an entry changes the counts of states by what the touched row adds to them before and after it
abbrev pub CountsFollow : Type 0
CountsFollow =
    (s : PoolState) (e : Entry) → IsSound s → MayFollow s e → (state : TaskState) →
    count_in (after s e) state + count_of_row state (touched_row s (touched_task s e.kind))
    ≡ count_in s state + count_of_row state (touched_row (after s e) (touched_task s e.kind))
