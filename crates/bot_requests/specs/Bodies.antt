-- The bodies of a bot's requests.
use Rattle.std.specs.Prelude.{ℕ, List, ◌++◌, take, Option, Some, None, codes, decimal}
use Rattle.hex.specs.Hex.{encode_lower}
use Rattle.base64.specs.Engines.{standard}
use Rattle.base64.specs.GeneralPurpose.{encode_of}
use Rattle.serde_json.specs.Data.{Data, boolean, string, object, Members, member, no_members}
use Rattle.json_values.specs.Values.{whole, signed, list_data}
use Rattle.task_props.specs.declared.file.File.{File}
use Rattle.bot_core.specs.declared.action.End.{End}
use Rattle.bot_requests.specs.declared.hands.Hands.{Hands}
use Rattle.bot_requests.specs.Dimensions.{dimensions_data}

-- ---- names

-- a session: the bot's first moment, and the number of the session
unfoldable pub session_name : ℕ → ℕ → List ℕ
session_name first session = decimal first ++ (codes "-" ++ decimal session)

-- a claim: its session, and the number of the claim in it
unfoldable pub claim_name : ℕ → ℕ → ℕ → List ℕ
claim_name first session claim = decimal first ++ (codes "-" ++ (decimal session ++ (codes "-" ++ decimal claim)))

-- ---- requests for work

-- `caches` are the names of the bot's caches
unfoldable pub handshake_data : Hands → List (List ℕ) → ℕ → ℕ → Data
handshake_data h caches first session =
    object
    (member (codes "bot_id") (string h.id)
    (member (codes "dimensions") (dimensions_data h.dims caches h.id h.pool)
    (member (codes "session") (string (session_name first session)) no_members)))

unfoldable pub poll_data : Hands → List (List ℕ) → Data
poll_data h caches =
    object
    (member (codes "bot_id") (string h.id)
    (member (codes "dimensions") (dimensions_data h.dims caches h.id h.pool) no_members))

unfoldable pub claim_data : Hands → ℕ → ℕ → ℕ → Data
claim_data h first session claim =
    object
    (member (codes "bot_id") (string h.id)
    (member (codes "claim_id") (string (claim_name first session claim))
    (member (codes "pool") (string h.pool) no_members)))

-- ---- reports on a run

-- a file, by its path, its digest and its size
abbrev pub file_data : File → Data
file_data file =
    object
    (member (codes "digest") (string (encode_lower file.digest))
    (member (codes "path") (string file.path)
    (member (codes "size") (whole file.size) no_members)))

-- a piece of the output, where it starts, and the run
unfoldable pub output_members : List ℕ → ℕ → List ℕ → Members
output_members run start chunk =
    member (codes "output") (string (encode_of standard chunk))
    (member (codes "output_chunk_start") (whole start)
    (member (codes "task_id") (string run) no_members))

abbrev pub report_data : List ℕ → List ℕ → ℕ → List ℕ → Data
report_data id run start chunk = object (member (codes "bot_id") (string id) (output_members run start chunk))

abbrev pub last_report_data : List ℕ → List ℕ → ℕ → List ℕ → End → List File → Data
last_report_data id run start chunk end files =
    object
    (member (codes "bot_id") (string id)
    (member (codes "dropped") (whole end.dropped)
    (member (codes "duration_ms") (whole end.duration_ms)
    (member (codes "exit_code") (signed end.exit_code)
    (member (codes "files") (list_data file_data files)
    (member (codes "hard_timeout") (boolean end.hard_timeout)
    (member (codes "io_timeout") (boolean end.io_timeout) (output_members run start chunk))))))))

-- the first `size` bytes of the pending output, with the end of the run and its files in the last report
unfoldable pub update_data : Hands → List ℕ → ℕ → ℕ → Option End → Data
update_data h run start size None = report_data h.id run start (take size h.pending.items)
update_data h run start size (Some end) = last_report_data h.id run start (take size h.pending.items) end h.files
