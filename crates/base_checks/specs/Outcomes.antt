-- Tasks that took the outcomes of others.
use Rattle.std.specs.Prelude.{ℕ, Bool, true, false, ◌&&◌, is_none, List}
use Rattle.std.specs.Option.{option_map_or}
use Rattle.base_checks.specs.Types.{Completed, TaskRow}
use Rattle.swarm_model.specs.Finding.{has_state}
use Rattle.swarm_model.specs.Reuse.{ended_well}
use Rattle.base_checks.specs.Agreeing.{numbered_task}

-- the task completed without a run of its own, and the one of the number ran and reported 0
abbrev pub has_outcome_of : List TaskRow → TaskRow → ℕ → Bool
has_outcome_of tasks task number =
    has_state Completed task && (is_none task.attempt && option_map_or ended_well (numbered_task tasks number) false)

-- so it is where the task took the outcome of another
abbrev pub has_outcome : List TaskRow → TaskRow → Bool
has_outcome tasks task = option_map_or (has_outcome_of tasks task) task.source true
