-- The properties of the tasks of a pool.
use Rattle.std.specs.Prelude.{IsTrue, List}
use Rattle.std.specs.List.{All}
use Rattle.log_laws.specs.Types.{PoolState, Entry, Slice}
use Rattle.swarm_model.specs.History.{replay, IsCaused}
use Rattle.swarm_model.specs.Soundness.{IsSound}
use Rattle.task_props.specs.Checked.{are_sound}

-- each slice of each task has properties that break no rule
abbrev pub PropertiesAreChecked : Type 0
PropertiesAreChecked =
    (base : PoolState) (log : List Entry) → IsSound base → IsCaused base log
    → All (λ task. All (λ (slice : Slice). IsTrue (are_sound slice.properties)) task.request.task_slices) (replay base log).tasks
