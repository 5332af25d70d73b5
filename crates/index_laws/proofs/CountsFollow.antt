-- The count of a state is a sum over the rows.
use Rattle.std.proofs.Common.{◌≡◌, ℕ, cond, refl, arith, Option, Some, None}
use Rattle.index_laws.specs.Types.{TaskState, TaskRow}
use Rattle.swarm_model.specs.Finding.{has_state}
use Rattle.index_laws.specs.Touched.{touched_task}
use Rattle.index_laws.specs.StateCounts.{touched_row, count_of_row, CountsFollow}
use Rattle.index_laws.specs.RowSums.{weight_of_row}
use Rattle.swarm_model.specs.Effects.{after}
use Rattle.index_laws.proofs.SumsFollow.{sums_follow}

-- what a row adds to it
abbrev pub counted : TaskState → TaskRow → ℕ
counted state x = cond (has_state state x) 1 0

counted_row : (state : TaskState) (row : Option TaskRow) → weight_of_row (counted state) row ≡ count_of_row state row
counted_row state None = refl
counted_row state (Some x) = refl

pub counts_follow : CountsFollow
counts_follow s e o follows state =
    let moved = sums_follow s e o follows (counted state) in
    let old = counted_row state (touched_row s (touched_task s e.kind)) in
    let new = counted_row state (touched_row (after s e) (touched_task s e.kind)) in
    omega (arith, moved, old, new)
