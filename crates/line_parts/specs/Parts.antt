-- The parts of an entry, as they are written and read.
use Rattle.std.specs.Prelude.{ℕ, ◌<◌, ◌^◌, List, [], ◌∷◌, Option, Some, None, option_map, is_some, if◌then◌else◌, codes, ⊤}
use Rattle.std.specs.Option.{option_and_then}
use Rattle.std.specs.List.{All}
use Rattle.serde_json.specs.Data.{Data, string, boolean, array, object, member, no_members}
use Rattle.serde_json.specs.Find.{as_str, as_bool}
use Rattle.serde_json.specs.View.{items_of}
use Rattle.line_parts.specs.Types.{Text, DimSet, BotDims, Cache, File, TaskState, Chunk, Last, EventKind, Outcome}
use Rattle.swarm_model.specs.declared.entry.Outcome.TheVariants as outcome
use Rattle.line_parts.specs.Finding.{◌>>=◌, field, whole, number_in, signed, signed_in, IsInt, digest_data, digest_in, IsDigest}
use Rattle.line_parts.specs.Lists.{list_data, list_in, items_in}
use Rattle.swarm_model.specs.States.{state_name, state_named}
use Rattle.line_parts.specs.Names.{event_name, event_named}

abbrev pub word_in : Data → Option ℕ
word_in d = number_in (2 ^ 32) d

abbrev pub long_in : Data → Option ℕ
long_in d = number_in (2 ^ 64) d

abbrev pub IsWord : ℕ → Type 0
IsWord n = n < 2 ^ 32

-- ---- pairs

-- {key, value}
abbrev pub pair_data : Text × Text → Data
pair_data pair = object (member (codes "key") (string pair.0) (member (codes "value") (string pair.1) no_members))

abbrev pub pair_in : Data → Option (Text × Text)
pair_in d = do
  key ← field as_str (codes "key") d
  value ← field as_str (codes "value") d
  Some (key, value)

-- [key, [values]]
abbrev pub values_data : Text × List Text → Data
values_data pair = array (items_of (string pair.0 ∷ list_data string pair.1 ∷ []))

abbrev pub values_of : List Data → Option (Text × List Text)
values_of (key ∷ values ∷ []) = do
  name ← as_str key
  texts ← list_in as_str values
  Some (name, texts)
values_of ds = None

abbrev pub values_in : Data → Option (Text × List Text)
values_in d = items_in d >>= values_of

abbrev pub set_in : Data → Option DimSet
set_in d = list_in pair_in d

abbrev pub dims_in : Data → Option BotDims
dims_in d = list_in values_in d

-- ---- parts of a task

abbrev pub cache_with : Text → Text → Cache
cache_with name path = record { name = name; path = path }

abbrev pub cache_data : Cache → Data
cache_data cache = object (member (codes "name") (string cache.name) (member (codes "path") (string cache.path) no_members))

abbrev pub cache_in : Data → Option Cache
cache_in d = do
  name ← field as_str (codes "name") d
  path ← field as_str (codes "path") d
  Some (cache_with name path)

abbrev pub file_with : Text → List ℕ → ℕ → File
file_with path digest size = record { path = path; digest = digest; size = size }

abbrev pub file_data : File → Data
file_data file =
    object
    (member (codes "digest") (digest_data file.digest)
    (member (codes "path") (string file.path)
    (member (codes "size") (whole file.size) no_members)))

abbrev pub file_in : Data → Option File
file_in d = do
  digest ← field digest_in (codes "digest") d
  path ← field as_str (codes "path") d
  size ← field word_in (codes "size") d
  Some (file_with path digest size)

abbrev pub HoldsFile : File → Type 0
HoldsFile file = IsDigest file.digest × IsWord file.size

-- ---- reports

-- [start, size, digest]
abbrev pub chunk_data : Chunk → Data
chunk_data chunk = array (items_of (whole chunk.start ∷ whole chunk.size ∷ digest_data chunk.digest ∷ []))

abbrev pub chunk_with : ℕ → ℕ → List ℕ → Chunk
chunk_with start size digest = record { start = start; size = size; digest = digest }

abbrev pub chunk_of : List Data → Option Chunk
chunk_of (a ∷ b ∷ c ∷ []) = do
  start ← word_in a
  size ← word_in b
  digest ← digest_in c
  Some (chunk_with start size digest)
chunk_of ds = None

abbrev pub chunk_in : Data → Option Chunk
chunk_in d = items_in d >>= chunk_of

abbrev pub HoldsChunk : Chunk → Type 0
HoldsChunk chunk = IsWord chunk.start × IsWord chunk.size × IsDigest chunk.digest

unfoldable pub last_data : Last → Data
last_data last =
    object
    (member (codes "dropped") (whole last.dropped)
    (member (codes "duration_ms") (whole last.duration_ms)
    (member (codes "exit_code") (signed last.exit_code)
    (member (codes "files") (list_data file_data last.files)
    (member (codes "hard_timeout") (boolean last.hard_timeout)
    (member (codes "io_timeout") (boolean last.io_timeout) no_members))))))

unfoldable pub last_in : Data → Option Last
last_in d = do
  dropped ← field long_in (codes "dropped") d
  duration ← field long_in (codes "duration_ms") d
  exit_code ← field signed_in (codes "exit_code") d
  files ← field (list_in file_in) (codes "files") d
  hard_timeout ← field as_bool (codes "hard_timeout") d
  io_timeout ← field as_bool (codes "io_timeout") d
  Some (record { exit_code = exit_code; duration_ms = duration; hard_timeout = hard_timeout; io_timeout = io_timeout; dropped = dropped; files = files })

abbrev pub HoldsLast : Last → Type 0
HoldsLast last = (last.dropped < 2 ^ 64) × (last.duration_ms < 2 ^ 64) × IsInt last.exit_code × All HoldsFile last.files

-- ---- outcomes

abbrev pub state_data : TaskState → Data
state_data state = string (state_name state)

abbrev pub state_in : Data → Option TaskState
state_in d = option_and_then state_named (as_str d)

abbrev pub event_data : EventKind → Data
event_data event = string (event_name event)

abbrev pub event_in : Data → Option EventKind
event_in d = option_and_then event_named (as_str d)

-- a slice's place, or a state's name
abbrev pub outcome_data : Outcome → Data
outcome_data (outcome.Slice place) = whole place
outcome_data (outcome.Ended state) = state_data state

abbrev pub outcome_in : Data → Option Outcome
outcome_in d = if is_some (as_str d) then option_map outcome.Ended (state_in d) else option_map outcome.Slice (word_in d)

abbrev pub HoldsOutcome : Outcome → Type 0
HoldsOutcome (outcome.Slice place) = IsWord place
HoldsOutcome (outcome.Ended state) = ⊤
