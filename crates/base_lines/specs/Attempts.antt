-- A run, as the lines of a base tell it.
use Rattle.std.specs.Prelude.{ℕ, ◌<◌, ◌^◌, Bool, List, Option, Some, codes}
use Rattle.std.specs.List.{All}
use Rattle.serde_json.specs.Data.{Data, string, boolean, object, member, no_members}
use Rattle.serde_json.specs.Find.{as_str, as_bool}
use Rattle.base_lines.specs.Types.{Text, Attempt, Chunk, Last, Retried}
use Rattle.line_parts.specs.Finding.{◌>>=◌, field, whole, below}
use Rattle.line_parts.specs.Lists.{list_data, list_in, or_null, null_or, HoldsOption}
use Rattle.line_parts.specs.Parts.{word_in, long_in, IsWord, chunk_data, chunk_in, HoldsChunk, last_data, last_in, HoldsLast}
use Rattle.base_lines.specs.Computed.{size_of, HasLength}

-- without its length
unfoldable pub attempt_data : Attempt → Data
attempt_data attempt =
    object
    (member (codes "b") (whole attempt.bot)
    (member (codes "begun") (whole attempt.begun)
    (member (codes "chunks") (list_data chunk_data attempt.chunks)
    (member (codes "claim") (string attempt.claim)
    (member (codes "kill") (boolean attempt.kill)
    (member (codes "last") (or_null last_data attempt.last)
    (member (codes "tail") (or_null chunk_data attempt.last_chunk)
    (member (codes "try") (whole attempt.try_no) no_members))))))))

abbrev pub attempt_with : ℕ → ℕ → List Chunk → Text → Bool → Option Last → Option Chunk → ℕ → ℕ → Attempt
attempt_with bot begun chunks claim kill last tail try_no length =
    record { try_no = try_no; bot = bot; claim = claim; begun = begun; kill = kill; chunks = chunks; length = length; last = last; last_chunk = tail }

-- as long as its chunks together, where a run may be so long
unfoldable pub attempt_in : Data → Option Attempt
attempt_in d = do
  bot ← field word_in (codes "b") d
  begun ← field long_in (codes "begun") d
  chunks ← field (list_in chunk_in) (codes "chunks") d
  claim ← field as_str (codes "claim") d
  kill ← field as_bool (codes "kill") d
  last ← field (null_or last_in) (codes "last") d
  tail ← field (null_or chunk_in) (codes "tail") d
  try_no ← field word_in (codes "try") d
  length ← below (2 ^ 32) (size_of chunks)
  Some (attempt_with bot begun chunks claim kill last tail try_no length)

-- what holds of each run that the type can have
abbrev pub HoldsAttempt : Attempt → Type 0
HoldsAttempt attempt =
    IsWord attempt.bot × (attempt.begun < 2 ^ 64) × All HoldsChunk attempt.chunks × HoldsOption HoldsLast attempt.last × HoldsOption HoldsChunk attempt.last_chunk × IsWord attempt.try_no

-- its length is the one that is computed
abbrev pub IsMeasured : Attempt → Type 0
IsMeasured attempt = HasLength attempt × IsWord attempt.length

-- ---- a run that was lost and is tried once more

unfoldable pub retried_data : Retried → Data
retried_data lost =
    object
    (member (codes "attempt") (attempt_data lost.attempt)
    (member (codes "over") (whole lost.over)
    (member (codes "slice") (whole lost.slice) no_members)))

abbrev pub retried_with : Attempt → ℕ → ℕ → Retried
retried_with attempt over slice = record { attempt = attempt; slice = slice; over = over }

unfoldable pub retried_in : Data → Option Retried
retried_in d = do
  attempt ← field attempt_in (codes "attempt") d
  over ← field long_in (codes "over") d
  slice ← field word_in (codes "slice") d
  Some (retried_with attempt over slice)

abbrev pub HoldsRetried : Retried → Type 0
HoldsRetried lost = HoldsAttempt lost.attempt × (lost.over < 2 ^ 64) × IsWord lost.slice
