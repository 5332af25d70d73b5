-- The rows of a pool, as the lines of a base tell them.
use Rattle.std.specs.Prelude.{◌≡◌, ℕ, ◌<◌, ◌^◌, [], List, Option, Some, None, codes, unwrap_or}
use Rattle.serde_json.specs.Data.{Data, string, boolean, object, Members, member, no_members}
use Rattle.serde_json.specs.Find.{as_str, as_bool}
use Rattle.base_lines.specs.Types.{BlobRow, TaskRow, BotRow}
use Rattle.blob_rows.specs.Extents.{extent_at}
use Rattle.blob_rows.specs.BlobRows.{units_of}
use Rattle.line_parts.specs.Finding.{◌>>=◌, field, whole, digest_data, digest_in, IsDigest}
use Rattle.line_parts.specs.Lists.{list_data, or_null, null_or, HoldsOption}
use Rattle.line_parts.specs.Parts.{word_in, long_in, IsWord, state_data, state_in, values_data, dims_in}
use Rattle.line_parts.specs.Tasks.{request_data, request_in, HoldsRequest, uuid_of}
use Rattle.base_lines.specs.declared.base_row.PoolLine.{PoolLine}
use Rattle.base_lines.specs.Attempts.{attempt_data, attempt_in, HoldsAttempt, retried_data, retried_in, HoldsRetried}

-- ---- the pool

unfoldable pub pool_data : PoolLine → Data
pool_data pool =
    object
    (member (codes "k") (string (codes "pool"))
    (member (codes "last") (whole pool.last)
    (member (codes "placed") (whole pool.placed) no_members)))

abbrev pub pool_with : ℕ → ℕ → PoolLine
pool_with last placed = record { last = last; placed = placed }

unfoldable pub pool_in : Data → Option PoolLine
pool_in d = do
  last ← field long_in (codes "last") d
  placed ← field word_in (codes "placed") d
  Some (pool_with last placed)

abbrev pub HoldsPool : PoolLine → Type 0
HoldsPool pool = (pool.last < 2 ^ 64) × IsWord pool.placed

-- ---- a task

-- the members behind the request
unfoldable pub later_members : TaskRow → Members
later_members task =
    member (codes "retried") (or_null retried_data task.retried)
    (member (codes "since") (whole task.since)
    (member (codes "slice") (whole task.slice)
    (member (codes "source") (or_null whole task.source)
    (member (codes "state") (state_data task.state)
    (member (codes "t") (whole task.no)
    (member (codes "uuid") (or_null string (uuid_of task.request.request_uuid))
    (member (codes "who") (string task.creator) no_members)))))))

unfoldable pub task_data : TaskRow → Data
task_data task =
    object
    (member (codes "attempt") (or_null attempt_data task.attempt)
    (member (codes "created") (whole task.created)
    (member (codes "ended") (or_null whole task.ended)
    (member (codes "k") (string (codes "task"))
    (member (codes "request") (request_data task.request) (later_members task))))))

unfoldable pub task_in : Data → Option TaskRow
task_in d = do
  attempt ← field (null_or attempt_in) (codes "attempt") d
  created ← field long_in (codes "created") d
  ended ← field (null_or long_in) (codes "ended") d
  uuid ← field (null_or as_str) (codes "uuid") d
  request ← field (request_in (unwrap_or uuid [])) (codes "request") d
  retried ← field (null_or retried_in) (codes "retried") d
  since ← field long_in (codes "since") d
  slice ← field word_in (codes "slice") d
  source ← field (null_or word_in) (codes "source") d
  state ← field state_in (codes "state") d
  number ← field word_in (codes "t") d
  who ← field as_str (codes "who") d
  Some (record {
    no = number;
    creator = who;
    request = request;
    created = created;
    state = state;
    slice = slice;
    since = since;
    attempt = attempt;
    retried = retried;
    source = source;
    ended = ended;
  })

abbrev pub HoldsLater : TaskRow → Type 0
HoldsLater task = HoldsOption HoldsRetried task.retried × (task.since < 2 ^ 64) × IsWord task.slice × HoldsOption IsWord task.source × IsWord task.no

abbrev pub HoldsTask : TaskRow → Type 0
HoldsTask task =
    HoldsOption HoldsAttempt task.attempt × (task.created < 2 ^ 64) × HoldsOption (λ n. n < 2 ^ 64) task.ended × HoldsRequest task.request × HoldsLater task

-- ---- a bot

-- without the task that it runs
unfoldable pub bot_data : BotRow → Data
bot_data bot =
    object
    (member (codes "b") (whole bot.no)
    (member (codes "contact") (whole bot.contact)
    (member (codes "dead") (boolean bot.dead)
    (member (codes "dims") (list_data values_data bot.dims)
    (member (codes "id") (string bot.name)
    (member (codes "k") (string (codes "bot"))
    (member (codes "q") (string bot.quarantined)
    (member (codes "session") (string bot.session)
    (member (codes "streak") (whole bot.streak)
    (member (codes "terminating") (boolean bot.terminating) no_members))))))))))

unfoldable pub bot_in : Data → Option BotRow
bot_in d = do
  number ← field word_in (codes "b") d
  contact ← field long_in (codes "contact") d
  dead ← field as_bool (codes "dead") d
  dims ← field dims_in (codes "dims") d
  name ← field as_str (codes "id") d
  quarantined ← field as_str (codes "q") d
  session ← field as_str (codes "session") d
  streak ← field word_in (codes "streak") d
  terminating ← field as_bool (codes "terminating") d
  Some (record {
    no = number;
    name = name;
    session = session;
    dims = dims;
    contact = contact;
    streak = streak;
    quarantined = quarantined;
    dead = dead;
    terminating = terminating;
    task = None;
  })

abbrev pub HoldsBot : BotRow → Type 0
HoldsBot bot = IsWord bot.no × (bot.contact < 2 ^ 64) × IsWord bot.streak

-- ---- a blob

-- without its number of units
unfoldable pub blob_data : BlobRow → Data
blob_data blob =
    object
    (member (codes "at") (whole blob.extent.at)
    (member (codes "deadline") (whole blob.deadline)
    (member (codes "digest") (digest_data blob.digest)
    (member (codes "k") (string (codes "blob"))
    (member (codes "n") (whole blob.no)
    (member (codes "size") (whole blob.size) no_members))))))

abbrev pub blob_with : ℕ → ℕ → List ℕ → ℕ → ℕ → BlobRow
blob_with at deadline digest number size =
    record { no = number; digest = digest; size = size; extent = extent_at (units_of size) at; deadline = deadline }

unfoldable pub blob_in : Data → Option BlobRow
blob_in d = do
  at ← field word_in (codes "at") d
  deadline ← field long_in (codes "deadline") d
  digest ← field digest_in (codes "digest") d
  number ← field word_in (codes "n") d
  size ← field word_in (codes "size") d
  Some (blob_with at deadline digest number size)

abbrev pub HoldsBlob : BlobRow → Type 0
HoldsBlob blob = IsWord blob.extent.at × (blob.deadline < 2 ^ 64) × IsDigest blob.digest × IsWord blob.no × IsWord blob.size

-- it has the units that are computed
abbrev pub HasUnits : BlobRow → Type 0
HasUnits blob = blob.extent.units ≡ units_of blob.size
