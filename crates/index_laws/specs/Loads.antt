-- What the indexes of a pool gain with a row that is added as it was kept.
use Rattle.std.specs.Prelude.{◌≡◌, ℕ, ◌+◌, ◌<◌, List, [], ◌∷◌, ◌++◌, length, slice_set, Option, Some, IfSome, MatchOption}
use Rattle.std.specs.List.{All}
use Rattle.std.specs.Option.{option_map}
use Rattle.index_laws.specs.Types.{BlobRow, TaskState, TaskRow, BotRow, PoolState, Deadline, ClaimLink, UuidLink, SourceLink}
use Rattle.swarm_model.specs.Numbers.{AreNumbered}
use Rattle.swarm_model.specs.Effects.{no_of_task, no_of_bot}
use Rattle.swarm_model.specs.History.{count_in}
use Rattle.swarm_model.specs.Deadlines.{bot_end, blob_end}
use Rattle.swarm_model.specs.Soundness.{IsRightTry, claim_key, lost_key, AreClaimedApart, AreSentApart}
use Rattle.dim_queue.specs.Plain.{QueueState, Enters, IsAbsent, SameWaits}
use Rattle.pool_index.specs.Claims as claims
use Rattle.pool_index.specs.Uuids as uuids
use Rattle.pool_index.specs.Links.{links_with}
use Rattle.pool_index.specs.Sources.{AreWith}
use Rattle.pool_index.specs.QueuedDeadlines.{Adds}
use Rattle.index_laws.specs.TaskQueues.{waiting_of, AreQueued}
use Rattle.index_laws.specs.TaskClaims.{claim_link, AreClaims}
use Rattle.index_laws.specs.TaskUuids.{sent_of, uuid_link, AreUuids}
use Rattle.index_laws.specs.TaskSources.{source_of, AreSources}
use Rattle.index_laws.specs.TaskUses.{uses_of, uses_in}
use Rattle.index_laws.specs.StateCounts.{count_of_row}
use Rattle.index_laws.specs.RowDeadlines.{task_deadline, AreTaskDeadlines, AreBotDeadlines}
use Rattle.index_laws.specs.BlobDeadlines.{AreBlobDeadlines}

-- the pool with one row more
abbrev pub with_task : PoolState → TaskRow → PoolState
with_task s row = record s { tasks = s.tasks ++ row ∷ [] }

abbrev pub with_bot : PoolState → BotRow → PoolState
with_bot s row = record s { bots = s.bots ++ row ∷ [] }

abbrev pub with_blob : PoolState → BlobRow → PoolState
with_blob s row = record s { blobs = s.blobs ++ row ∷ [] }

-- the row has the next number
abbrev pub IsNextTask : PoolState → TaskRow → Type 0
IsNextTask s row = AreNumbered no_of_task 1 s.tasks × (row.no ≡ length s.tasks + 1)

abbrev pub IsNextBot : PoolState → BotRow → Type 0
IsNextBot s row = AreNumbered no_of_bot 1 s.bots × (row.no ≡ length s.bots + 1)

-- the link of a row's claim
abbrev pub claim_under : TaskRow → ℕ × List ℕ → ClaimLink
claim_under row key = claim_link (key.0, key.1, row.no)

-- the link of the row's last run, and that of the one that was tried again
abbrev pub last_claim_link : TaskRow → Option ClaimLink
last_claim_link row = option_map (claim_under row) (claim_key row)

abbrev pub lost_claim_link : TaskRow → Option ClaimLink
lost_claim_link row = option_map (claim_under row) (lost_key row)

-- the links have none of the last run's key, and with that one they have none of the other's
pub record AreNewClaims (links : List ClaimLink) (row : TaskRow) : Type 0 where
  pub last : IfSome (last_claim_link row) (λ link. claims.HasNone links (claims.key_of link))
  pub lost : IfSome (lost_claim_link row) (λ link. claims.HasNone (links_with (last_claim_link row) links) (claims.key_of link))

-- a pending task enters the queue of its place
abbrev pub QueueGains : Type 0
QueueGains =
    (tasks : List TaskRow) (row : TaskRow) (old new : List QueueState) → AreQueued old tasks
    → MatchOption (waiting_of row) (SameWaits old new) (λ place. Enters place.0 place.1 old new) → AreQueued new (tasks ++ row ∷ [])

-- in no queue waits a task of the next number
abbrev pub QueueIsFree : Type 0
QueueIsFree = (s : PoolState) (row : TaskRow) (queues : List QueueState) → IsNextTask s row → AreQueued queues s.tasks → IsAbsent row.no queues

-- the claims of its runs are more
abbrev pub ClaimsGain : Type 0
ClaimsGain =
    (tasks : List TaskRow) (row : TaskRow) (old mid new : List ClaimLink) → AreClaims old tasks → mid ≡ links_with (last_claim_link row) old → new ≡ links_with (lost_claim_link row) mid →
    AreClaims new (tasks ++ row ∷ [])

-- each is new where claims are apart and the runs of the row are by two bots
abbrev pub ClaimsAreNew : Type 0
ClaimsAreNew =
    (s : PoolState) (row : TaskRow) (links : List ClaimLink) → IsNextTask s row → All (AreClaimedApart row) s.tasks → IfSome row.attempt (IsRightTry row.retried) → AreClaims links s.tasks →
    AreNewClaims links row

-- so it is with its uuid
abbrev pub UuidsGain : Type 0
UuidsGain =
    (tasks : List TaskRow) (row : TaskRow) (old new : List UuidLink) → AreUuids old tasks
    → new ≡ links_with (option_map uuid_link (sent_of row)) old → AreUuids new (tasks ++ row ∷ [])

abbrev pub UuidIsNew : Type 0
UuidIsNew =
    (s : PoolState) (row : TaskRow) (links : List UuidLink) → IsNextTask s row → All (AreSentApart row) s.tasks → AreUuids links s.tasks
    → IfSome (option_map uuid_link (sent_of row)) (λ link. uuids.HasNone links (uuids.key_of link))

-- its outcome may be taken
abbrev pub SourcesGain : Type 0
SourcesGain =
    (s : PoolState) (row : TaskRow) (old new : List SourceLink) → IsNextTask s row → AreSources old s.tasks → AreWith (source_of row) old new
    → AreSources new (s.tasks ++ row ∷ [])

-- its digests are used, and its state is counted
abbrev pub UsesGain : Type 0
UsesGain = (s : PoolState) (row : TaskRow) (digest : List ℕ) → uses_in (with_task s row) digest ≡ uses_in s digest + uses_of digest row

abbrev pub CountsGain : Type 0
CountsGain = (s : PoolState) (row : TaskRow) (state : TaskState) → count_in (with_task s row) state ≡ count_in s state + count_of_row state (Some row)

-- its deadline stands at its number
abbrev pub TaskDeadlinesGain : Type 0
TaskDeadlinesGain =
    (s : PoolState) (row : TaskRow) (ends : List (Option Deadline)) → IsNextTask s row → AreTaskDeadlines ends s → row.no < length ends
    → AreTaskDeadlines (slice_set ends row.no (task_deadline s row)) (with_task s row)

abbrev pub BotDeadlinesGain : Type 0
BotDeadlinesGain =
    (s : PoolState) (row : BotRow) (ends : List (Option Deadline)) → IsNextBot s row → AreBotDeadlines ends s → row.no < length ends
    → AreBotDeadlines (slice_set ends row.no (bot_end s row)) (with_bot s row)

-- that of a blob is added
abbrev pub BlobDeadlinesGain : Type 0
BlobDeadlinesGain =
    (s : PoolState) (row : BlobRow) (old new : List Deadline) → AreBlobDeadlines old s → Adds (blob_end row) old new → AreBlobDeadlines new (with_blob s row)
