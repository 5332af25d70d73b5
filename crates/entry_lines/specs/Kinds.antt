-- Each kind of entry, as it is written and read.
use Rattle.std.proofs.Common.{ℕ, ◌<◌, ◌^◌, List, [], Option, Some, None}
use Rattle.std.specs.Prelude.{codes, if◌then◌else◌, unwrap_or}
use Rattle.serde_json.specs.Data.{Data, string, boolean, object, Members, member, no_members, put}
use Rattle.serde_json.specs.Find.{as_str, as_bool}
use Rattle.dimensions.specs.Alike.{same}
use Rattle.dimensions.specs.declared.text.Text.{Text}
use Rattle.swarm_model.specs.declared.entry.Entry.{Entry}
use Rattle.swarm_model.specs.declared.entry.EntryKind.{EntryKind}
use Rattle.swarm_model.specs.declared.entry.EntryKind.TheVariants as kind
use Rattle.line_parts.specs.Finding.{◌>>=◌, field, whole, digest_data, digest_in, IsDigest}
use Rattle.line_parts.specs.Lists.{list_data, or_null, null_or, HoldsOption}
use Rattle.line_parts.specs.Parts.{word_in, long_in, IsWord, values_data, dims_in, chunk_data, chunk_in, HoldsChunk, last_data, last_in, HoldsLast, state_data, state_in, event_data, event_in, outcome_data, outcome_in, HoldsOutcome}
use Rattle.line_parts.specs.Tasks.{request_data, request_in, HoldsRequest, uuid_of}

abbrev pub kind_name : EntryKind → List ℕ
kind_name (kind.Slice t to) = codes "slice"
kind_name (kind.Silence t) = codes "silence"
kind_name (kind.Dead b) = codes "dead"
kind_name (kind.Blob n kept) = codes "blob"
kind_name (kind.New t who request state slice from) = codes "new"
kind_name (kind.Cancel t) = codes "cancel"
kind_name (kind.Kill t) = codes "kill"
kind_name (kind.Handshake b id session dims q) = codes "handshake"
kind_name (kind.Poll b dims q hint) = codes "poll"
kind_name (kind.Claim b t claim) = codes "claim"
kind_name (kind.Contact b) = codes "contact"
kind_name (kind.Event b e text) = codes "event"
kind_name (kind.Update b t try_no chunk last) = codes "update"
kind_name (kind.Terminate b) = codes "terminate"
kind_name (kind.Put digest size) = codes "put"

-- ---- written

abbrev pub one_member : List ℕ → Data → Members
one_member key d = member key d no_members

-- the members of a kind, their keys in order of bytes
abbrev pub kind_members : EntryKind → Members
kind_members (kind.Slice t to) = member (codes "t") (whole t) (one_member (codes "to") (outcome_data to))
kind_members (kind.Silence t) = one_member (codes "t") (whole t)
kind_members (kind.Dead b) = one_member (codes "b") (whole b)
kind_members (kind.Blob n kept) = member (codes "kept") (boolean kept) (one_member (codes "n") (whole n))
kind_members (kind.New t who request state slice from) =
    member (codes "from") (or_null whole from)
    (member (codes "request") (request_data request)
    (member (codes "slice") (whole slice)
    (member (codes "state") (state_data state)
    (member (codes "t") (whole t)
    (member (codes "uuid") (or_null string (uuid_of request.request_uuid))
    (one_member (codes "who") (string who)))))))
kind_members (kind.Cancel t) = one_member (codes "t") (whole t)
kind_members (kind.Kill t) = one_member (codes "t") (whole t)
kind_members (kind.Handshake b id session dims q) =
    member (codes "b") (whole b)
    (member (codes "dims") (list_data values_data dims)
    (member (codes "id") (string id)
    (member (codes "q") (string q)
    (one_member (codes "session") (string session)))))
kind_members (kind.Poll b dims q hint) =
    member (codes "b") (whole b)
    (member (codes "dims") (or_null (list_data values_data) dims)
    (member (codes "hint") (boolean hint)
    (one_member (codes "q") (or_null string q))))
kind_members (kind.Claim b t claim) =
    member (codes "b") (whole b) (member (codes "claim") (string claim) (one_member (codes "t") (whole t)))
kind_members (kind.Contact b) = one_member (codes "b") (whole b)
kind_members (kind.Event b e text) =
    member (codes "b") (whole b) (member (codes "e") (event_data e) (one_member (codes "text") (string text)))
kind_members (kind.Update b t try_no chunk last) =
    member (codes "b") (whole b)
    (member (codes "chunk") (or_null chunk_data chunk)
    (member (codes "last") (or_null last_data last)
    (member (codes "t") (whole t)
    (one_member (codes "try") (whole try_no)))))
kind_members (kind.Terminate b) = one_member (codes "b") (whole b)
kind_members (kind.Put digest size) = member (codes "digest") (digest_data digest) (one_member (codes "size") (whole size))

-- with the name of the kind, the moment and the pass among them
unfoldable pub entry_data : Entry → Data
entry_data e =
    object
    (put (codes "k") (string (kind_name e.kind))
    (put (codes "m") (whole e.moment)
    (put (codes "p") (whole e.pass) (kind_members e.kind))))

-- ---- what holds of each entry that the types can have

abbrev pub KindFits : EntryKind → Type 0
KindFits (kind.Slice t to) = IsWord t × HoldsOutcome to
KindFits (kind.Silence t) = IsWord t
KindFits (kind.Dead b) = IsWord b
KindFits (kind.Blob n kept) = IsWord n
KindFits (kind.New t who request state slice from) = HoldsOption IsWord from × HoldsRequest request × IsWord slice × IsWord t
KindFits (kind.Cancel t) = IsWord t
KindFits (kind.Kill t) = IsWord t
KindFits (kind.Handshake b id session dims q) = IsWord b
KindFits (kind.Poll b dims q hint) = IsWord b
KindFits (kind.Claim b t claim) = IsWord b × IsWord t
KindFits (kind.Contact b) = IsWord b
KindFits (kind.Event b e text) = IsWord b
KindFits (kind.Update b t try_no chunk last) = IsWord b × HoldsOption HoldsChunk chunk × HoldsOption HoldsLast last × IsWord t × IsWord try_no
KindFits (kind.Terminate b) = IsWord b
KindFits (kind.Put digest size) = IsDigest digest × IsWord size

abbrev pub HoldsEntry : Entry → Type 0
HoldsEntry e = (e.moment < 2 ^ 64) × IsWord e.pass × KindFits e.kind

-- ---- read

abbrev pub task_at : Data → Option ℕ
task_at d = field word_in (codes "t") d

abbrev pub bot_at : Data → Option ℕ
bot_at d = field word_in (codes "b") d

abbrev pub text_at : List ℕ → Data → Option Text
text_at key d = field as_str key d

unfoldable pub slice_kind_in : Data → Option EntryKind
slice_kind_in d = do
  t ← task_at d
  to ← field outcome_in (codes "to") d
  Some (kind.Slice t to)

unfoldable pub blob_kind_in : Data → Option EntryKind
blob_kind_in d = do
  kept ← field as_bool (codes "kept") d
  n ← field word_in (codes "n") d
  Some (kind.Blob n kept)

unfoldable pub new_kind_in : Data → Option EntryKind
new_kind_in d = do
  from ← field (null_or word_in) (codes "from") d
  uuid ← field (null_or as_str) (codes "uuid") d
  request ← field (request_in (unwrap_or uuid [])) (codes "request") d
  slice ← field word_in (codes "slice") d
  state ← field state_in (codes "state") d
  t ← task_at d
  who ← text_at (codes "who") d
  Some (kind.New t who request state slice from)

unfoldable pub handshake_kind_in : Data → Option EntryKind
handshake_kind_in d = do
  b ← bot_at d
  dims ← field dims_in (codes "dims") d
  id ← text_at (codes "id") d
  q ← text_at (codes "q") d
  session ← text_at (codes "session") d
  Some (kind.Handshake b id session dims q)

unfoldable pub poll_kind_in : Data → Option EntryKind
poll_kind_in d = do
  b ← bot_at d
  dims ← field (null_or dims_in) (codes "dims") d
  hint ← field as_bool (codes "hint") d
  q ← field (null_or as_str) (codes "q") d
  Some (kind.Poll b dims q hint)

unfoldable pub claim_kind_in : Data → Option EntryKind
claim_kind_in d = do
  b ← bot_at d
  claim ← text_at (codes "claim") d
  t ← task_at d
  Some (kind.Claim b t claim)

unfoldable pub event_kind_in : Data → Option EntryKind
event_kind_in d = do
  b ← bot_at d
  e ← field event_in (codes "e") d
  text ← text_at (codes "text") d
  Some (kind.Event b e text)

unfoldable pub update_kind_in : Data → Option EntryKind
update_kind_in d = do
  b ← bot_at d
  chunk ← field (null_or chunk_in) (codes "chunk") d
  last ← field (null_or last_in) (codes "last") d
  t ← task_at d
  try_no ← field word_in (codes "try") d
  Some (kind.Update b t try_no chunk last)

unfoldable pub put_kind_in : Data → Option EntryKind
put_kind_in d = do
  digest ← field digest_in (codes "digest") d
  size ← field word_in (codes "size") d
  Some (kind.Put digest size)

abbrev pub some_of : (ℕ → EntryKind) → Option ℕ → Option EntryKind
some_of f None = None
some_of f (Some n) = Some (f n)

-- the kinds that have the number of a task alone, or that of a bot
unfoldable pub numbered_kind_in : List ℕ → Data → Option EntryKind
numbered_kind_in name d =
    if same name (codes "silence") then some_of kind.Silence (task_at d)
    else if same name (codes "dead") then some_of kind.Dead (bot_at d)
    else if same name (codes "cancel") then some_of kind.Cancel (task_at d)
    else if same name (codes "kill") then some_of kind.Kill (task_at d)
    else if same name (codes "contact") then some_of kind.Contact (bot_at d)
    else if same name (codes "terminate") then some_of kind.Terminate (bot_at d)
    else None

unfoldable pub kind_in : List ℕ → Data → Option EntryKind
kind_in name d =
    if same name (codes "slice") then slice_kind_in d
    else if same name (codes "blob") then blob_kind_in d
    else if same name (codes "new") then new_kind_in d
    else if same name (codes "handshake") then handshake_kind_in d
    else if same name (codes "poll") then poll_kind_in d
    else if same name (codes "claim") then claim_kind_in d
    else if same name (codes "event") then event_kind_in d
    else if same name (codes "update") then update_kind_in d
    else if same name (codes "put") then put_kind_in d
    else numbered_kind_in name d

abbrev pub entry_with : ℕ → ℕ → EntryKind → Entry
entry_with moment pass k = record { moment = moment; pass = pass; kind = k }

unfoldable pub entry_in : Data → Option Entry
entry_in d = do
  name ← text_at (codes "k") d
  moment ← field long_in (codes "m") d
  pass ← field word_in (codes "p") d
  k ← kind_in name d
  Some (entry_with moment pass k)
