-- The tasks whose outcome others may take, by the hash of the properties with which they ran.
use Rattle.std.specs.Prelude.{◌≡◌, ℕ, pos, Bool, false, ◌&&◌, ◌||◌, not, List, Option, Some, None, if◌then◌else◌}
use Rattle.std.specs.List.{find, fold}
use Rattle.std.specs.Option.{option_map, option_map_or, option_and_then}
use Rattle.std.specs.Ordering.{int_eq}
use Rattle.task_props.specs.Canonical.{hash}
use Rattle.index_laws.specs.Types.{Slice, Attempt, Last, TaskRow, PoolState, Entry, EntryKind, SourceLink}
use Rattle.swarm_model.specs.declared.entry.EntryKind.TheVariants as kind
use Rattle.swarm_model.specs.Finding.{is_task, task_of}
use Rattle.swarm_model.specs.Slices.{current_slice}
use Rattle.swarm_model.specs.Reuse.{ended_well, is_young, ran_hash, newer, newest_source}
use Rattle.swarm_model.specs.Effects.{no_of_task, after}
use Rattle.swarm_model.specs.History.{replay, IsCaused, MayFollow}
use Rattle.swarm_model.specs.Soundness.{IsSound}
use Rattle.swarm_model.specs.BaseRules.{AreCreatedInOrder, AreBaseRows}
use Rattle.pool_index.specs.Sources.{newest_in, AreWith}
use Rattle.index_laws.specs.Touched.{touched_task}
use Rattle.index_laws.specs.StateCounts.{touched_row}

-- the hash of a slice's properties, where its run may stand for others
abbrev pub hash_of_slice : Slice → Option (List ℕ)
hash_of_slice slice = if slice.properties.idempotent then Some (hash slice.properties) else None

-- that of the slice to which a task has come
abbrev pub slice_hash_of : TaskRow → Option (List ℕ)
slice_hash_of task = option_and_then hash_of_slice (current_slice task)

-- the same, where the task ended well
abbrev pub source_hash_of : TaskRow → Option (List ℕ)
source_hash_of task = if ended_well task then slice_hash_of task else None

-- the link of a task under a hash
abbrev pub link_under : TaskRow → List ℕ → SourceLink
link_under task digest = record { hash = digest; task = task.no }

-- the link of a task whose outcome others may take
abbrev pub source_of : TaskRow → Option SourceLink
source_of task = option_map (link_under task) (source_hash_of task)

-- others with this hash may take the outcome of the task
abbrev pub has_source_hash : List ℕ → TaskRow → Bool
has_source_hash digest task = ended_well task && ran_hash digest task

-- the last of the rows for which this holds
abbrev pub last_source : List TaskRow → List ℕ → Option TaskRow
last_source tasks digest = fold (newer (has_source_hash digest)) None tasks

-- under each hash stands the number of the last row whose outcome others of the hash may take
pub record AreSources (links : List SourceLink) (tasks : List TaskRow) : Type 0 where
  pub each : (digest : List ℕ) → newest_in links digest ≡ option_map no_of_task (last_source tasks digest)

-- ---- an entry

-- the link of the touched row after an entry
abbrev pub source_link_to_come : PoolState → Entry → Option SourceLink
source_link_to_come s e = option_and_then source_of (touched_row (after s e) (touched_task s e.kind))

-- after an entry only that link has to be noted
abbrev pub SourcesFollow : Type 0
SourcesFollow =
    (s : PoolState) (e : Entry) → IsSound s → MayFollow s e → (old new : List SourceLink) → AreSources old s.tasks → AreWith (source_link_to_come s e) old new →
    AreSources new (after s e).tasks

-- a run ends well by this report: it was not asked to stop, ran into no timeout, and reports 0
abbrev pub ends_well : Last → Attempt → Bool
ends_well last attempt = not attempt.kill && (not (last.hard_timeout || last.io_timeout) && int_eq last.exit_code (pos 0))

-- the link of a row of before, where its run ends well by this report
abbrev pub link_by_report : Last → TaskRow → Option SourceLink
link_by_report last task = if option_map_or (ends_well last) task.attempt false then option_map (link_under task) (slice_hash_of task) else None

-- the link that an entry brings, by the rows before it: only the last report of a run brings one
abbrev pub source_link_before : List TaskRow → EntryKind → Option SourceLink
source_link_before tasks (kind.Update b t try_no chunk (Some last)) = option_and_then (link_by_report last) (find (is_task t) tasks)
source_link_before tasks entry = None

-- the link to come is known before the entry, with its hash
abbrev pub SourceHashIsKnownBefore : Type 0
SourceHashIsKnownBefore = (s : PoolState) (e : Entry) → IsSound s → MayFollow s e → source_link_to_come s e ≡ source_link_before s.tasks e.kind

-- ---- a look-up

-- rows of lower numbers were created no later, in every pool to which a log leads from the rows of a base
abbrev pub CreatedInOrder : Type 0
CreatedInOrder = (base : PoolState) (log : List Entry) → IsSound base → AreBaseRows base → IsCaused base log → AreCreatedInOrder (replay base log).tasks

-- a task, where it is young enough at a moment
abbrev pub if_young : PoolState → ℕ → TaskRow → Option TaskRow
if_young s moment task = if is_young s.settings.reuse_age_secs moment task then Some task else None

-- the task that stands under a hash is the newest source, where it is young enough; where it isn't, there is none
abbrev pub SourceIsFound : Type 0
SourceIsFound =
    (s : PoolState) → IsSound s → AreCreatedInOrder s.tasks → (links : List SourceLink) → AreSources links s.tasks → (digest : List ℕ) (moment : ℕ) →
    option_and_then (if_young s moment) (option_and_then (task_of s) (newest_in links digest)) ≡ newest_source s moment digest
