-- How much an entry weighs, and which request it stands for.
use Rattle.std.specs.Prelude.{ℕ, ◌+◌, List, [], length, Option, Some, None, unwrap_or, Bool, true, false}
use Rattle.std.specs.List.{sum_by}
use Rattle.std.specs.Option.{option_map, option_map_or}
use Rattle.swarm_model.specs.Types.{Text, BotDims, File, Properties, Slice, NewTask, Chunk, Last, TaskRow, BotRow, EventKind, PoolState, Entry, EntryKind, Request}
use Rattle.task_props.specs.declared.cache.Cache.{Cache}
use Rattle.swarm_model.specs.declared.entry.EntryKind.TheVariants as kind
use Rattle.swarm_model.specs.declared.request.Request.TheVariants as ask
use Rattle.swarm_model.specs.Finding.{task_of, bot_of}

-- what a digest with its size weighs
abbrev pub digest_weight : ℕ
digest_weight = 36

abbrev pub pair_weight : List ℕ × List ℕ → ℕ
pair_weight pair = length pair.0 + length pair.1

abbrev pub cache_weight : Cache → ℕ
cache_weight cache = length cache.name + length cache.path

abbrev pub file_weight : File → ℕ
file_weight file = length file.path + digest_weight

abbrev pub properties_weight : Properties → ℕ
properties_weight p =
    sum_by length p.command + (sum_by pair_weight p.env + (sum_by pair_weight p.dimensions
    + (sum_by cache_weight p.caches + (sum_by file_weight p.inputs + sum_by length p.outputs))))

abbrev pub slice_weight : Slice → ℕ
slice_weight slice = properties_weight slice.properties

abbrev pub task_weight : NewTask → ℕ
task_weight request = length request.name + (length request.request_uuid + sum_by slice_weight request.task_slices)

abbrev pub values_weight : List ℕ × List (List ℕ) → ℕ
values_weight pair = length pair.0 + sum_by length pair.1

abbrev pub dims_weight : BotDims → ℕ
dims_weight dims = sum_by values_weight dims

abbrev pub chunk_weight : Chunk → ℕ
chunk_weight chunk = digest_weight

abbrev pub last_weight : Last → ℕ
last_weight last = sum_by file_weight last.files

-- the bytes of all texts in it, and 36 for each digest
abbrev pub weight_of : EntryKind → ℕ
weight_of (kind.New t who request state slice from) = length who + task_weight request
weight_of (kind.Handshake b id session dims q) = length id + (length session + (dims_weight dims + length q))
weight_of (kind.Poll b dims q hint) = option_map_or dims_weight dims 0 + option_map_or length q 0
weight_of (kind.Claim b t claim) = length claim
weight_of (kind.Event b e text) = length text
weight_of (kind.Update b t try_no chunk last) = option_map_or chunk_weight chunk 0 + option_map_or last_weight last 0
weight_of (kind.Put digest size) = digest_weight
weight_of entry = 0

abbrev pub weight : Entry → ℕ
weight entry = weight_of entry.kind

-- a caller and a request
pub record Asked : Type 0 where
  pub who : List ℕ
  pub request : Request

-- whether the entry is that of a deadline
abbrev pub is_deadline : EntryKind → Bool
is_deadline (kind.Slice t to) = true
is_deadline (kind.Silence t) = true
is_deadline (kind.Dead b) = true
is_deadline (kind.Blob n kept) = true
is_deadline entry = false

-- a request whose caller is not kept; no answer looks at it
abbrev pub without_caller : Request → Asked
without_caller request = record { who = []; request = request }

abbrev pub poll_of : Option BotDims → Option Text → BotRow → Asked
poll_of dims q bot = without_caller (ask.Poll bot.name (unwrap_or dims bot.dims) (unwrap_or q bot.quarantined))

abbrev pub claim_of : List ℕ → BotRow → Asked
claim_of claim bot = without_caller (ask.Claim bot.name claim)

abbrev pub handshake_of : BotRow → Asked
handshake_of bot = without_caller (ask.Handshake bot.name bot.session bot.dims bot.quarantined)

abbrev pub event_of : EventKind → List ℕ → BotRow → Asked
event_of which message bot = without_caller (ask.Event bot.name which message)

abbrev pub terminate_of : BotRow → Asked
terminate_of bot = without_caller (ask.Terminate bot.name)

-- the creator of a task has it canceled, with its run
abbrev pub cancel_of : TaskRow → Asked
cancel_of task = record { who = task.creator; request = ask.Cancel task.no 0 true }

abbrev pub update_of : ℕ → ℕ → Option Chunk → Option Last → BotRow → Asked
update_of task try_no chunk last bot = without_caller (ask.Update bot.name task try_no chunk last)

-- the request for which an entry stands; none, where it is a deadline's
abbrev pub asks : PoolState → EntryKind → Option Asked
asks s (kind.New t who request state slice from) = Some (record { who = who; request = ask.New request })
asks s (kind.Cancel t) = option_map cancel_of (task_of s t)
asks s (kind.Kill t) = option_map cancel_of (task_of s t)
asks s (kind.Handshake b id session dims q) = Some (without_caller (ask.Handshake id session dims q))
asks s (kind.Poll b dims q hint) = option_map (poll_of dims q) (bot_of s b)
asks s (kind.Claim b t claim) = option_map (claim_of claim) (bot_of s b)
asks s (kind.Contact b) = option_map handshake_of (bot_of s b)
asks s (kind.Event b e text) = option_map (event_of e text) (bot_of s b)
asks s (kind.Update b t try_no chunk last) = option_map (update_of t try_no chunk last) (bot_of s b)
asks s (kind.Terminate b) = option_map terminate_of (bot_of s b)
asks s (kind.Put digest size) = Some (without_caller (ask.PutBlob digest digest size))
asks s entry = None
