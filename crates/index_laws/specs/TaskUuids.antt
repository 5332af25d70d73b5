-- The uuids under which a pool's tasks were sent; an empty uuid is none.
use Rattle.std.specs.Prelude.{◌≡◌, ◌↔◌, ℕ, List, Option, Some, None, IfSome, MatchOption, if◌then◌else◌}
use Rattle.std.specs.Option.{option_map, option_and_then}
use Rattle.dimensions.specs.Rules.{is_empty}
use Rattle.index_laws.specs.Types.{TaskRow, PoolState, Entry, EntryKind, UuidLink}
use Rattle.swarm_model.specs.declared.entry.EntryKind.TheVariants as kind
use Rattle.swarm_model.specs.Finding.{task_of}
use Rattle.swarm_model.specs.Reuse.{sent}
use Rattle.swarm_model.specs.Effects.{after}
use Rattle.swarm_model.specs.History.{MayFollow}
use Rattle.swarm_model.specs.Soundness.{IsSound}
use Rattle.pool_index.specs.Uuids.{HasUuid, HasNone, key_of, links_with}
use Rattle.index_laws.specs.Keys.{HasKey}

-- a caller, the uuid, and the number of the task
abbrev pub Sent : Type 0
Sent = List ℕ × List ℕ × ℕ

-- the uuid under which a task was sent
abbrev pub sent_of : TaskRow → Option Sent
sent_of task = if is_empty task.request.request_uuid then None else Some (task.creator, task.request.request_uuid, task.no)

-- the uuid that an entry brings
abbrev pub uuid_to_come : EntryKind → Option Sent
uuid_to_come (kind.New t who request state slice from) = if is_empty request.request_uuid then None else Some (who, request.request_uuid, t)
uuid_to_come entry = None

-- the link of a uuid
abbrev pub uuid_link : Sent → UuidLink
uuid_link c = record { creator = c.0; uuid = c.1; task = c.2 }

-- the link that an entry adds
abbrev pub uuid_link_to_come : EntryKind → Option UuidLink
uuid_link_to_come k = option_map uuid_link (uuid_to_come k)

-- the links are the uuids of the rows that have one
pub record AreUuids (links : List UuidLink) (tasks : List TaskRow) : Type 0 where
  pub each : (who uuid : List ℕ) (n : ℕ) → HasUuid links (who, uuid) n ↔ HasKey sent_of tasks (who, uuid, n)

-- after an entry only the uuid that it brings has to be added
abbrev pub UuidsFollow : Type 0
UuidsFollow =
    (s : PoolState) (e : Entry) → IsSound s → MayFollow s e → (old new : List UuidLink) → AreUuids old s.tasks → new ≡ links_with (uuid_link_to_come e.kind) old →
    AreUuids new (after s e).tasks

-- the uuid that an entry brings is a new one of its caller
abbrev pub UuidsAreFresh : Type 0
UuidsAreFresh =
    (s : PoolState) (e : Entry) → IsSound s → MayFollow s e → (links : List UuidLink) → AreUuids links s.tasks →
    IfSome (uuid_link_to_come e.kind) (λ link. HasNone links (key_of link))

-- the task that is found by a caller and a uuid is the one that the caller sent under it
abbrev pub UuidIsFound : Type 0
UuidIsFound =
    (s : PoolState) → IsSound s → (links : List UuidLink) → AreUuids links s.tasks → (who uuid : List ℕ) (found : Option ℕ) →
    MatchOption found (HasNone links (who, uuid)) (HasUuid links (who, uuid)) → option_and_then (task_of s) found ≡ sent s who uuid
