-- The requests of a bot.
use Rattle.std.specs.Prelude.{ℕ, List, [], ◌++◌, Option, codes}
use Rattle.hex.specs.Hex.{encode_lower}
use Rattle.serde_json.specs.Data.{Data}
use Rattle.serde_json.specs.Written.{compact_text}
use Rattle.client_requests.specs.Requests.{request_text}
use Rattle.bot_core.specs.declared.action.End.{End}
use Rattle.bot_requests.specs.declared.hands.Hands.{Hands}
use Rattle.bot_requests.specs.Bodies.{handshake_data, poll_data, claim_data, update_data}

-- a request to the bot's server
abbrev pub request_by : List ℕ → List ℕ → Hands → List ℕ → List ℕ
request_by method path h body = request_text method path h.host h.caller body

-- the post of a JSON value
abbrev pub post_text : List ℕ → Hands → Data → List ℕ
post_text path h value = request_by (codes "POST") path h (compact_text value)

-- `caches` are the names of the bot's caches
abbrev pub handshake_text : Hands → List (List ℕ) → ℕ → ℕ → List ℕ
handshake_text h caches first session = post_text (codes "/bot/handshake") h (handshake_data h caches first session)

abbrev pub poll_text : Hands → List (List ℕ) → List ℕ
poll_text h caches = post_text (codes "/bot/poll") h (poll_data h caches)

abbrev pub claim_text : Hands → ℕ → ℕ → ℕ → List ℕ
claim_text h first session claim = post_text (codes "/bot/claim") h (claim_data h first session claim)

-- `size` bytes of the output of a run, from `start` on, and its end where this is the last report
abbrev pub update_text : Hands → List ℕ → ℕ → ℕ → Option End → List ℕ
update_text h run start size last = post_text (codes "/bot/task_update") h (update_data h run start size last)

-- a blob of the pool
unfoldable pub blob_path : List ℕ → List ℕ → List ℕ
blob_path pool digest = codes "/blobs/" ++ (pool ++ (codes "/" ++ encode_lower digest))

abbrev pub get_blob_text : Hands → List ℕ → List ℕ
get_blob_text h digest = request_by (codes "GET") (blob_path h.pool digest) h []

abbrev pub put_blob_text : Hands → List ℕ → List ℕ → List ℕ
put_blob_text h digest bytes = request_by (codes "PUT") (blob_path h.pool digest) h bytes
