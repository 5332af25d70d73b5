-- Which task a caller has sent already, and whose outcome a new task may take.
use Rattle.std.specs.Prelude.{ℕ, pos, Bool, false, ◌+◌, ◌&&◌, nat_lt, List, [], ◌∷◌, Option, Some, None, if◌then◌else◌}
use Rattle.std.specs.List.{find, fold}
use Rattle.std.specs.Option.{option_map, option_map_or}
use Rattle.std.specs.Ordering.{int_eq}
use Rattle.dimensions.specs.Alike.{same}
use Rattle.dimensions.specs.Choosing.{◌or_else◌}
use Rattle.dimensions.specs.Rules.{is_empty}
use Rattle.task_props.specs.Canonical.{hash}
use Rattle.swarm_model.specs.Types.{Slice, Completed, TaskRow, PoolState, Reuse}
use Rattle.swarm_model.specs.Finding.{has_state}
use Rattle.swarm_model.specs.Slices.{current_slice}
use Rattle.swarm_model.specs.Views.{last_of}

-- ---- a task that is sent again

abbrev pub is_sent : List ℕ → List ℕ → TaskRow → Bool
is_sent who uuid task = same task.creator who && same task.request.request_uuid uuid

-- the task that a caller sent under a uuid
abbrev pub sent : PoolState → List ℕ → List ℕ → Option TaskRow
sent s who uuid = if is_empty uuid then None else find (is_sent who uuid) s.tasks

-- ---- an outcome that is taken

-- the run reported its end with 0; a task that took another's outcome has no run
abbrev pub ended_well : TaskRow → Bool
ended_well task = has_state Completed task && option_map_or (λ last. int_eq last.exit_code (pos 0)) (last_of task) false

-- created less than so many seconds before the moment
abbrev pub is_young : ℕ → ℕ → TaskRow → Bool
is_young age moment task = nat_lt moment (task.created + age)

-- a slice whose run may stand for others, of properties with this hash
abbrev pub has_hash : List ℕ → Slice → Bool
has_hash digest slice = slice.properties.idempotent && same (hash slice.properties) digest

-- the slice that the task has come to is such a one
abbrev pub ran_hash : List ℕ → TaskRow → Bool
ran_hash digest task = option_map_or (has_hash digest) (current_slice task) false

abbrev pub is_source : ℕ → ℕ → List ℕ → TaskRow → Bool
is_source age moment digest task = ended_well task && (is_young age moment task && ran_hash digest task)

-- the source so far, where one more task is looked at
abbrev pub newer : (TaskRow → Bool) → Option TaskRow → TaskRow → Option TaskRow
newer is_source best task = if is_source task then Some task else best

-- the newest task whose outcome a slice with this hash may take
abbrev pub newest_source : PoolState → ℕ → List ℕ → Option TaskRow
newest_source s moment digest = fold (newer (is_source s.settings.reuse_age_secs moment digest)) None s.tasks

-- the task whose outcome a slice takes
abbrev pub source_for : PoolState → ℕ → Slice → Option TaskRow
source_for s moment slice = if slice.properties.idempotent then newest_source s moment (hash slice.properties) else None

abbrev pub at_slice : ℕ → TaskRow → Reuse
at_slice place task = record { slice = place; source = task.no }

-- the first slice that has a source, where the list begins at a place
abbrev pub reuse_from : PoolState → ℕ → ℕ → List Slice → Option Reuse
reuse_from s moment place [] = None
reuse_from s moment place (slice ∷ slices) = option_map (at_slice place) (source_for s moment slice) or_else reuse_from s moment (place + 1) slices

-- the first slice that has a source, with the number of that task
abbrev pub reuse : PoolState → ℕ → List Slice → Option Reuse
reuse s moment slices = reuse_from s moment 0 slices
