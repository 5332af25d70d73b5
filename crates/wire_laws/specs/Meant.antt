-- What the server reads in the requests of a bot.
use Rattle.std.specs.Prelude.{codes, false, ◌≡◌, ℕ, ◌+◌, ◌<◌, ◌≤◌, ◌^◌, ⊤, true, List, [], ◌++◌, length, take, Option, None, Some, Ok, IfSome}
use Rattle.std.specs.List.{All, list_any}
use Rattle.std.specs.Option.{option_map}
use Rattle.std.specs.Str.{IsUtf8}
use Rattle.base64.specs.GeneralPurpose.{IsBytes}
use Rattle.hex.specs.Hex.{encode_lower}
use Rattle.sha2.specs.Sha256.{sha256}
use Rattle.serde_json.specs.Written.{compact_text}
use Rattle.dimensions.specs.BotRules.{first_bot_broken, pool_of_bot}
use Rattle.dimensions.specs.Matching.{is_of_key}
use Rattle.dimensions.specs.Order.{sorted_bot}
use Rattle.wire_laws.specs.Types.{File, Last, Route, Call, Blob, End, BotState, Hands}
use Rattle.task_props.specs.Sorted.{is_path}
use Rattle.swarm_model.specs.declared.pool_settings.Settings.{Settings}
use Rattle.swarm_model.specs.declared.request.Request.{Request}
use Rattle.swarm_model.specs.declared.request.Request.TheVariants as ask
use Rattle.swarm_model.specs.Fits.{is_name}
use Rattle.routes.specs.declared.route.Route.TheVariants as route
use Rattle.routes.specs.Routes.{is_part, is_question_mark, pool_part, digest_part, resource_of}
use Rattle.json_fields.specs.Ids.{run_id}
use Rattle.bot_core.specs.declared.action.Action.{Action}
use Rattle.bot_core.specs.declared.action.Action.TheVariants as action
use Rattle.bot_core.specs.Bounds.{Bounds}
use Rattle.bot_core.specs.Table.{action_of}
use Rattle.bot_dimensions.specs.Groups.{groups_of, groups_with_bot}
use Rattle.bot_requests.specs.Dimensions.{caches_group}
use Rattle.bot_requests.specs.Requests.{blob_path}
use Rattle.bot_requests.specs.Bodies.{session_name, claim_name, handshake_data, poll_data, claim_data, update_data}
use Rattle.bot_bodies.specs.Outputs.{chunk_of}
use Rattle.swarm_wire.specs.declared.parts.Parts.{Parts}
use Rattle.swarm_wire.specs.Pools.{pool_place}
use Rattle.swarm_wire.specs.Asking.{asked_of, named_of}
use Rattle.line_parts.specs.Finding.{IsInt, IsDigest}
use Rattle.wire_laws.specs.Fitting.{IsLong, IsPlace, IsRun, FitsFile, FitsPair}

-- ---- requests to the pool of a name

-- under all settings, a call of this body asks the pool of this name for this
abbrev pub Means : Route → List ℕ → List ℕ → Request → Type 0
Means call body pool request =
    (settings : Settings) (parts : Parts) → asked_of settings call parts body ≡ named_of settings.pools (Ok (record { pool = pool; request = request }))

-- what a bot says that it has: its pairs, its caches, its name and its pool
abbrev pub groups : Hands → List (List ℕ) → List (List ℕ × List (List ℕ))
groups h caches = groups_with_bot h.id h.pool (groups_of h.dims ++ caches_group caches)

-- the same as the server holds it
abbrev pub dims_of : Hands → List (List ℕ) → List (List ℕ × List (List ℕ))
dims_of h caches = sorted_bot (groups h caches)

-- they break no rule on a bot of its name
pub record FitsServer (h : Hands) (caches : List (List ℕ)) : Type 0 where
  pub id : is_name h.id ≡ true
  pub text : IsUtf8 h.id
  pub texts : All FitsPair (groups h caches)
  pub unbroken : first_bot_broken h.id (groups h caches) ≡ None

abbrev pub HandshakesAreMeant : Type 0
HandshakesAreMeant = (h : Hands) (caches : List (List ℕ)) (first session : ℕ) → FitsServer h caches → IsLong first → IsLong session
    → Means route.Handshake (compact_text (handshake_data h caches first session)) (pool_of_bot (dims_of h caches)) (ask.Handshake h.id (session_name first session) (dims_of h caches) [])

abbrev pub PollsAreMeant : Type 0
PollsAreMeant = (h : Hands) (caches : List (List ℕ)) → FitsServer h caches
    → Means route.Poll (compact_text (poll_data h caches)) (pool_of_bot (dims_of h caches)) (ask.Poll h.id (dims_of h caches) [])

-- the pool that they name is the bot's, where none of its own pairs has that key
abbrev pub PoolsAreNamed : Type 0
PoolsAreNamed = (h : Hands) (caches : List (List ℕ)) → list_any (is_of_key (codes "pool")) (groups_of h.dims ++ caches_group caches) ≡ false → pool_of_bot (dims_of h caches) ≡ h.pool

abbrev pub ClaimsAreMeant : Type 0
ClaimsAreMeant = (h : Hands) (first session claim : ℕ) → is_name h.id ≡ true → IsUtf8 h.id → IsUtf8 h.pool → IsLong first → IsLong session → IsLong claim
    → Means route.Claim (compact_text (claim_data h first session claim)) h.pool (ask.Claim h.id (claim_name first session claim))

-- ---- reports

-- what a bot tells of the end of a run, with the files of its outputs
abbrev pub last_by : Hands → End → Last
last_by h end = record {
  exit_code = end.exit_code;
  duration_ms = end.duration_ms;
  hard_timeout = end.hard_timeout;
  io_timeout = end.io_timeout;
  dropped = end.dropped;
  files = h.files;
}

-- the end of a run within the ranges of the server
pub record FitsEnd (end : End) : Type 0 where
  pub exit_code : IsInt end.exit_code
  pub duration_ms : end.duration_ms ≤ 2 ^ 40
  pub dropped : end.dropped ≤ 2 ^ 53

pub record FitsOutput (start : ℕ) (chunk : List ℕ) : Type 0 where
  pub bytes : IsBytes chunk
  pub size : length chunk ≤ 32768
  pub end_ : start + length chunk ≤ 67108864

-- an output of a run, by its path below a folder
abbrev pub FitsOutputFile : File → Type 0
FitsOutputFile file = FitsFile file × (is_path file.path ≡ true)

abbrev pub FitsLast : Hands → Option End → Type 0
FitsLast h None = ⊤
FitsLast h (Some end) = FitsEnd end × (length h.files ≤ 64) × All FitsOutputFile h.files

abbrev pub chunk : Hands → ℕ → List ℕ
chunk h size = take size h.pending.items

-- the report of a run of the pool at a place, with the bytes of its output
abbrev pub ReportsAreMeant : Type 0
ReportsAreMeant = (h : Hands) (place task try_no start size : ℕ) (last : Option End) (settings : Settings) (parts : Parts)
    → is_name h.id ≡ true → IsUtf8 h.id → IsPlace place → place < length settings.pools → IsRun (task, try_no) → FitsOutput start (chunk h size) → FitsLast h last
    → asked_of settings route.TaskUpdate parts (compact_text (update_data h (run_id place (task, try_no)) start size last))
    ≡ Ok (record { place = place; request = ask.Update h.id task try_no (chunk_of start (chunk h size)) (option_map (last_by h) last); bytes = chunk h size })

-- ---- blobs

-- the parts of the target of a blob
abbrev pub blob_parts : List ℕ → List ℕ → Parts
blob_parts pool digest = record { pool = pool; digest = encode_lower digest }

abbrev pub BlobGetsAreMeant : Type 0
BlobGetsAreMeant = (settings : Settings) (pool digest : List ℕ) → IsDigest digest
    → asked_of settings route.GetBlob (blob_parts pool digest) [] ≡ named_of settings.pools (Ok (record { pool = pool; request = ask.GetBlob digest }))

abbrev pub BlobPutsAreMeant : Type 0
BlobPutsAreMeant = (settings : Settings) (place : ℕ) (pool digest bytes : List ℕ) → IsDigest digest → pool_place settings.pools pool ≡ Some place
    → asked_of settings route.PutBlob (blob_parts pool digest) bytes ≡ Ok (record { place = place; request = ask.PutBlob digest (sha256 bytes) (length bytes); bytes = bytes })

-- ---- targets

-- the targets of a bot that name a call
pub record CallsAreFound : Type 0 where
  pub handshake : resource_of (codes "/bot/handshake") ≡ Some (Call route.Handshake)
  pub poll : resource_of (codes "/bot/poll") ≡ Some (Call route.Poll)
  pub claim : resource_of (codes "/bot/claim") ≡ Some (Call route.Claim)
  pub update : resource_of (codes "/bot/task_update") ≡ Some (Call route.TaskUpdate)

-- at the target of a blob stands a blob, and its parts are those that the bot wrote
pub record FindsBlob (pool digest : List ℕ) : Type 0 where
  pub resource : resource_of (blob_path pool digest) ≡ Some Blob
  pub pool_ : pool_part (blob_path pool digest) ≡ pool
  pub digest_ : digest_part (blob_path pool digest) ≡ encode_lower digest

-- where the name of the pool has no slash and no question mark
abbrev pub BlobsAreFound : Type 0
BlobsAreFound = (pool digest : List ℕ) → is_part pool ≡ true → list_any is_question_mark pool ≡ false → IsDigest digest → FindsBlob pool digest

-- ---- ranges

-- what an action sends lies within what the server reads
abbrev pub LiesWithin : Action → Type 0
LiesWithin (action.Handshake first session) = IsLong session
LiesWithin (action.Claim first session claim) = IsLong session × IsLong claim
LiesWithin (action.Send start size last) = (size ≤ 32768) × (start + size ≤ 67108864) × IfSome last (λ end. end.dropped ≤ 2 ^ 53)
LiesWithin other = ⊤

-- of a bot whose limits are of 32 bits, and whose numbers keep to the bounds of one that goes on
abbrev pub RangesLieWithin : Type 0
RangesLieWithin = (s : BotState) → s.limits.steps < 2 ^ 32 → Bounds s → LiesWithin (action_of s)
