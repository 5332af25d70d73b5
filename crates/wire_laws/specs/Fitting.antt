-- What fits its place in a reply: texts in UTF-8, numbers within their types, and numbers of pools, tasks and tries that ids can show.
use Rattle.std.specs.Prelude.{◌≡◌, ℕ, ◌<◌, ◌≤◌, ◌^◌, pos, ⊤, IsTrue, List, length, map, IfSome, Ok}
use Rattle.std.specs.List.{All}
use Rattle.std.specs.Str.{IsUtf8}
use Rattle.base64.specs.GeneralPurpose.{IsBytes}
use Rattle.hex.specs.Hex.{encode_lower}
use Rattle.wire_laws.specs.Types.{Cache, File, Properties, RawFile, Rule, TaskView, BotView, Reply}
use Rattle.task_props.specs.Checked.{are_sound}
use Rattle.task_props.specs.Shown.{HasWordTimes}
use Rattle.task_checks.specs.declared.raw_task.RawProperties.{RawProperties}
use Rattle.swarm_model.specs.declared.rule.Rule.TheVariants as rule
use Rattle.swarm_model.specs.declared.reply.Reply.TheVariants as reply
use Rattle.line_parts.specs.Finding.{IsInt, IsDigest}
use Rattle.line_parts.specs.Parts.{IsWord}
use Rattle.reply_bodies.specs.Bodies.{joined, first_piece}
use Rattle.server_calls.specs.Commands.{checked_properties}

-- ---- numbers

-- a whole number of 64 bits
abbrev pub IsLong : ℕ → Type 0
IsLong n = n < 2 ^ 64

-- the place of one of the four pools that settings may have
abbrev pub IsPlace : ℕ → Type 0
IsPlace place = place < 4

-- the number of a task in its pool
abbrev pub IsTaskNumber : ℕ → Type 0
IsTaskNumber task = (0 < task) × (task ≤ 262144)

-- the number of a task, and that of its first or its second try
abbrev pub IsRun : ℕ × ℕ → Type 0
IsRun run = IsTaskNumber run.0 × (0 < run.1) × (run.1 ≤ 2)

abbrev pub IsBlobSize : ℕ → Type 0
IsBlobSize size = size ≤ 16777216

-- ---- blobs and files

-- a blob, by its digest and its size
abbrev pub FitsBlob : List ℕ × ℕ → Type 0
FitsBlob blob = IsDigest blob.0 × IsBlobSize blob.1

pub record FitsFile (file : File) : Type 0 where
  pub path : IsUtf8 file.path
  pub digest : IsDigest file.digest
  pub size : IsBlobSize file.size

-- ---- tasks and bots

pub record FitsTask (task : TaskView) : Type 0 where
  pub bot_id : IfSome task.bot_id IsUtf8
  pub completed_ts : IfSome task.completed_ts IsLong
  pub created_ts : IsLong task.created_ts
  pub current_task_slice : IsWord task.current_task_slice
  pub deduped_from : IfSome task.deduped_from IsRun
  pub dropped : IfSome task.dropped IsLong
  pub duration_ms : IfSome task.duration_ms IsLong
  pub exit_code : IfSome task.exit_code IsInt
  pub files : All FitsFile task.files
  pub name : IsUtf8 task.name
  pub output_length : IsWord task.output_length
  pub priority : IsWord task.priority
  pub run_id : IfSome task.run_id IsRun
  pub started_ts : IfSome task.started_ts IsLong
  pub task_id : IsTaskNumber task.task_id
  pub user : IsUtf8 task.user

-- a key with its values
abbrev pub FitsPair : List ℕ × List (List ℕ) → Type 0
FitsPair pair = IsUtf8 pair.0 × All IsUtf8 pair.1

pub record FitsBot (bot : BotView) : Type 0 where
  pub bot_id : IsUtf8 bot.bot_id
  pub dimensions : All FitsPair bot.dimensions
  pub last_seen_ts : IsLong bot.last_seen_ts
  pub quarantined : IsUtf8 bot.quarantined
  pub task_id : IfSome bot.task_id IsRun

-- ---- refusals

abbrev pub FitsRefusal : Rule → Type 0
FitsRefusal (rule.TooLarge limit) = IsWord limit
FitsRefusal (rule.BadField field broken) = IsUtf8 field
FitsRefusal (rule.Denied permission pool) = IsUtf8 pool
FitsRefusal (rule.UuidReused task) = IsTaskNumber task
FitsRefusal (rule.BotBusy task try_no) = IsRun (task, try_no)
FitsRefusal (rule.ClaimOver task try_no state) = IsRun (task, try_no)
FitsRefusal (rule.NotClaimant bot) = IsUtf8 bot
FitsRefusal (rule.OutputGap length) = IsWord length
FitsRefusal (rule.OutputOverlap start) = IsWord start
FitsRefusal (rule.BlobMissing digest) = IsDigest digest
FitsRefusal (rule.DigestDiffers actual) = IsDigest actual
FitsRefusal (rule.StoreFull names size) = IsWord names × IsWord size
FitsRefusal (rule.PoolTasksFull limit) = IsWord limit
FitsRefusal (rule.PoolBotsFull limit) = IsWord limit
FitsRefusal (rule.FrontAhead length) = IsLong length
FitsRefusal (rule.OutputGone digest) = IsDigest digest
FitsRefusal why = ⊤

-- ---- properties

abbrev pub FitsTexts : List ℕ × List ℕ → Type 0
FitsTexts pair = IsUtf8 pair.0 × IsUtf8 pair.1

abbrev pub FitsCache : Cache → Type 0
FitsCache cache = IsUtf8 cache.name × IsUtf8 cache.path

-- the fields of a request that names the file, and of one that has the properties
abbrev pub raw_file : File → RawFile
raw_file file = record { path = file.path; digest = encode_lower file.digest; size = pos file.size }

abbrev pub raw_properties : Properties → RawProperties
raw_properties p = record {
  command = p.command;
  env = p.env;
  dimensions = p.dimensions;
  caches = p.caches;
  inputs = map raw_file p.inputs;
  outputs = p.outputs;
  execution_timeout_secs = pos p.execution_timeout_secs;
  io_timeout_secs = pos p.io_timeout_secs;
  grace_period_secs = pos p.grace_period_secs;
  idempotent = p.idempotent;
}

-- a check of those fields finds no broken rule, and leaves the properties as they are
abbrev pub AreChecked : Properties → Type 0
AreChecked p = checked_properties (raw_properties p) ≡ Ok p

-- so of all properties that are sound, as are those of each task of a pool
abbrev pub SoundAreChecked : Type 0
SoundAreChecked = (p : Properties) → IsTrue (are_sound p) → AreChecked p

pub record FitsProperties (p : Properties) : Type 0 where
  pub command : All IsUtf8 p.command
  pub env : All FitsTexts p.env
  pub dimensions : All FitsTexts p.dimensions
  pub caches : All FitsCache p.caches
  pub inputs : All FitsFile p.inputs
  pub outputs : All IsUtf8 p.outputs
  pub times : HasWordTimes p
  pub checked : AreChecked p

-- ---- replies

-- all that the body of a reply of the pool at a place shows fits its place there
abbrev pub FitsPlace : ℕ → Reply → List (List ℕ) → Type 0
FitsPlace place (reply.New task state) pieces = IsPlace place × IsTaskNumber task
FitsPlace place (reply.Result task) pieces = IsPlace place × FitsTask task
FitsPlace place (reply.Stdout state parts) pieces = IsBytes (joined parts pieces)
FitsPlace place (reply.Tasks items cursor) pieces = IsPlace place × All FitsTask items × IfSome cursor IsTaskNumber
FitsPlace place (reply.Count count) pieces = IsLong count
FitsPlace place (reply.Shaken bot) pieces = IsUtf8 bot
FitsPlace place (reply.Sleep secs) pieces = IsLong secs
FitsPlace place (reply.Run task try_no slice tolerance properties) pieces = IsPlace place × IsRun (task, try_no) × IsWord slice × IsWord tolerance × FitsProperties properties
FitsPlace place (reply.Bots items cursor) pieces = IsPlace place × All FitsBot items × IfSome cursor IsUtf8
FitsPlace place (reply.Bot bot) pieces = IsPlace place × FitsBot bot
FitsPlace place (reply.Blob digest size) pieces = IsBlobSize (length (first_piece pieces))
FitsPlace place (reply.Missing blobs) pieces = All FitsBlob blobs
FitsPlace place (reply.No why) pieces = IsPlace place × FitsRefusal why
FitsPlace place answered pieces = ⊤
