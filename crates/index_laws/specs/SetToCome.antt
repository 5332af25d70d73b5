-- The queue that the touched task enters by an entry, by the rows before it.
use Rattle.std.specs.Prelude.{◌≡◌, ℕ, List, Option, Some, None, IfSome, slice_get, if◌then◌else◌}
use Rattle.std.specs.Option.{option_map, option_and_then}
use Rattle.index_laws.specs.Types.{Slice, QueueSet, TaskRow, PoolState, Entry, EntryKind}
use Rattle.swarm_model.specs.declared.entry.EntryKind.TheVariants as kind
use Rattle.swarm_model.specs.declared.entry.Outcome.TheVariants as outcome
use Rattle.swarm_model.specs.Finding.{task_of}
use Rattle.swarm_model.specs.Slices.{kept_from}
use Rattle.swarm_model.specs.Effects.{is_tried_again, run_of_bot, after}
use Rattle.swarm_model.specs.History.{MayFollow}
use Rattle.swarm_model.specs.Soundness.{IsSound}
use Rattle.index_laws.specs.Touched.{touched_task}
use Rattle.index_laws.specs.StateCounts.{touched_row}
use Rattle.index_laws.specs.TaskQueues.{set_of, touched_place}

-- the set of the slice at a place, for a task that is kept from a bot or from none
abbrev pub set_at : List Slice → ℕ → Option ℕ → Option QueueSet
set_at slices place but = option_map (set_of but) (slice_get slices place)

-- that of a task which comes to the slice at a place
abbrev pub set_moved : ℕ → TaskRow → Option QueueSet
set_moved place task = set_at task.request.task_slices place (kept_from task)

-- that of a task which waits again at its slice, kept from the bot whose run was lost
abbrev pub set_again : TaskRow → Option QueueSet
set_again task = set_at task.request.task_slices task.slice (option_map (λ attempt. attempt.bot) task.attempt)

-- the same, where a lost run of the task is tried again
abbrev pub set_if_lost : ℕ → TaskRow → Option QueueSet
set_if_lost retries task = if is_tried_again retries task then set_again task else None

-- and of the task of a number, where there is one
abbrev pub set_of_lost : PoolState → Option ℕ → Option QueueSet
set_of_lost s number = option_and_then (set_if_lost s.settings.retries) (touched_row s number)

-- that of the new task's slice, of the slice to which a task comes, or of the task whose run the entry loses
abbrev pub set_to_come : PoolState → EntryKind → Option QueueSet
set_to_come s (kind.New t who request state slice from) = set_at request.task_slices slice None
set_to_come s (kind.Slice t (outcome.Slice place)) = option_and_then (set_moved place) (task_of s t)
set_to_come s (kind.Silence t) = set_of_lost s (Some t)
set_to_come s (kind.Handshake b id session dims q) = set_of_lost s (run_of_bot s b)
set_to_come s entry = None

-- where there is a set, it is the one that was made ready
abbrev pub IsReadyFor : Option QueueSet → Option QueueSet → Type 0
IsReadyFor ready come = IfSome come (λ its. ready ≡ Some its)

-- where the touched task waits after an entry, it waits with the set to come
abbrev pub PlaceIsReady : Type 0
PlaceIsReady =
    (s : PoolState) (e : Entry) → IsSound s → MayFollow s e → (ready : Option QueueSet) → IsReadyFor ready (set_to_come s e.kind) →
    IfSome (touched_place (after s e) (touched_task s e.kind)) (λ place. ready ≡ Some place.1)
