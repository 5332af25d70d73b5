-- Sums over the rows of tasks.
use Rattle.std.specs.Prelude.{◌≡◌, ℕ, ◌+◌, Option}
use Rattle.std.specs.List.{sum_by}
use Rattle.std.specs.Option.{option_map_or}
use Rattle.index_laws.specs.Types.{TaskRow, PoolState, Entry}
use Rattle.swarm_model.specs.Effects.{after}
use Rattle.swarm_model.specs.History.{MayFollow}
use Rattle.swarm_model.specs.Soundness.{IsSound}
use Rattle.index_laws.specs.Touched.{touched_task}
use Rattle.index_laws.specs.StateCounts.{touched_row}

-- what a row adds to a sum, where there is one
abbrev pub weight_of_row : (TaskRow → ℕ) → Option TaskRow → ℕ
weight_of_row weight row = option_map_or weight row 0

-- an entry changes a sum by what the touched row adds to it before and after it
abbrev pub SumsFollow : Type 0
SumsFollow =
    (s : PoolState) (e : Entry) → IsSound s → MayFollow s e → (weight : TaskRow → ℕ) →
    sum_by weight (after s e).tasks + weight_of_row weight (touched_row s (touched_task s e.kind))
    ≡ sum_by weight s.tasks + weight_of_row weight (touched_row (after s e) (touched_task s e.kind))
