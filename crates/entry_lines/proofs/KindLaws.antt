-- Each kind of entry is read back of its value, which has no float and few levels.
use Rattle.std.proofs.Common.{◌≡◌, ℕ, ◌≤◌, ◌^◌, ◌∙◌, [], false, Option, Some, None, refl, arith, ap}
use Rattle.std.specs.Prelude.{unwrap_or, codes}
use Rattle.serde_json.specs.Data.{Data, string, depth}
use Rattle.serde_json.specs.Find.{as_str}
use Rattle.serde_json.specs.Written.{has_float}
use Rattle.dimensions.specs.declared.text.Text.{Text}
use Rattle.dimensions.specs.declared.bot_dims.BotDims.{BotDims}
use Rattle.task_props.specs.declared.new_task.NewTask.{NewTask}
use Rattle.swarm_model.specs.declared.attempt.Chunk.{Chunk}
use Rattle.swarm_model.specs.declared.attempt.Last.{Last}
use Rattle.swarm_model.specs.declared.entry.Entry.{Entry}
use Rattle.swarm_model.specs.declared.entry.EntryKind.{EntryKind}
use Rattle.swarm_model.specs.declared.entry.EntryKind.TheVariants as kind
use Rattle.line_parts.specs.Finding.{field, whole, number_in}
use Rattle.line_parts.specs.Lists.{list_data, or_null, null_or, HoldsOption, option_reads_back, option_has_no_float, option_is_shallow}
use Rattle.line_parts.specs.Names.{state_reads_back, event_reads_back}
use Rattle.line_parts.specs.Numbers.{number_reads_back, digest_reads_back}
use Rattle.line_parts.specs.Parts.{word_in, IsWord, values_data, dims_in, chunk_data, chunk_in, HoldsChunk, last_data, last_in, HoldsLast}
use Rattle.line_parts.specs.PartLaws.{dims_reads_back, dims_has_no_float, dims_is_shallow, chunk_reads_back, chunk_is_shallow, last_reads_back, last_never_null, last_has_no_float, last_is_shallow, outcome_reads_back, outcome_has_no_float, outcome_is_shallow}
use Rattle.line_parts.specs.Tasks.{request_data, request_in, request_reads_back, request_has_no_float, request_is_shallow, uuid_of, uuid_reads_back}
use Rattle.entry_lines.specs.Kinds.{kind_name, entry_data, KindFits, HoldsEntry, slice_kind_in, blob_kind_in, new_kind_in, handshake_kind_in, poll_kind_in, claim_kind_in, event_kind_in, update_kind_in, put_kind_in, numbered_kind_in, kind_in, entry_in}

word_reads_back : (n : ℕ) → IsWord n → word_in (whole n) ≡ Some n
word_reads_back n h = number_reads_back (2 ^ 32) n h

number_or_null_reads_back : (o : Option ℕ) → HoldsOption IsWord o → null_or word_in (or_null whole o) ≡ Some o
number_or_null_reads_back o h = option_reads_back whole word_in IsWord (λ _. refl) word_reads_back o h

text_or_null_reads_back : (o : Option Text) → null_or as_str (or_null string o) ≡ Some o
text_or_null_reads_back None = refl
text_or_null_reads_back (Some t) = refl

dims_or_null_reads_back : (o : Option BotDims) → null_or dims_in (or_null (list_data values_data) o) ≡ Some o
dims_or_null_reads_back None = refl
dims_or_null_reads_back (Some dims) = rw (dims_reads_back dims tt) refl

chunk_or_null_reads_back : (o : Option Chunk) → HoldsOption HoldsChunk o → null_or chunk_in (or_null chunk_data o) ≡ Some o
chunk_or_null_reads_back o h = option_reads_back chunk_data chunk_in HoldsChunk (λ _. refl) chunk_reads_back o h

last_or_null_reads_back : (o : Option Last) → HoldsOption HoldsLast o → null_or last_in (or_null last_data o) ≡ Some o
last_or_null_reads_back o h = option_reads_back last_data last_in HoldsLast last_never_null last_reads_back o h

-- the request with the uuid that was written beside it
request_of_uuid : (request : NewTask) → request_in (unwrap_or (uuid_of request.request_uuid) []) (request_data request) ≡ request_in request.request_uuid (request_data request)
request_of_uuid request = ap (λ uuid. request_in uuid (request_data request)) (uuid_reads_back request.request_uuid)

-- each kind, written with this moment and this pass
kind_reads_back : (m p : ℕ) (k : EntryKind) → KindFits k → kind_in (kind_name k) (entry_data (record { moment = m; pass = p; kind = k })) ≡ Some k
unfolding entry_data kind_in numbered_kind_in slice_kind_in blob_kind_in new_kind_in handshake_kind_in poll_kind_in claim_kind_in event_kind_in update_kind_in put_kind_in
kind_reads_back m p (kind.Slice t to) h = rw (word_reads_back t h.0, outcome_reads_back to h.1) refl
kind_reads_back m p (kind.Silence t) h = rw (word_reads_back t h) refl
kind_reads_back m p (kind.Dead b) h = rw (word_reads_back b h) refl
kind_reads_back m p (kind.Blob n kept) h = rw (word_reads_back n h) refl
kind_reads_back m p (kind.New t who request state slice from) h =
    rw (
      number_or_null_reads_back from h.0,
      text_or_null_reads_back (uuid_of request.request_uuid),
      request_of_uuid request,
      request_reads_back request h.1,
      word_reads_back slice h.2,
      state_reads_back state,
      word_reads_back t h.3,
    ) refl
kind_reads_back m p (kind.Cancel t) h = rw (word_reads_back t h) refl
kind_reads_back m p (kind.Kill t) h = rw (word_reads_back t h) refl
kind_reads_back m p (kind.Handshake b id session dims q) h = rw (word_reads_back b h, dims_reads_back dims tt) refl
kind_reads_back m p (kind.Poll b dims q hint) h = rw (word_reads_back b h, dims_or_null_reads_back dims, text_or_null_reads_back q) refl
kind_reads_back m p (kind.Claim b t claim) h = rw (word_reads_back b h.0, word_reads_back t h.1) refl
kind_reads_back m p (kind.Contact b) h = rw (word_reads_back b h) refl
kind_reads_back m p (kind.Event b e text) h = rw (word_reads_back b h, event_reads_back e) refl
kind_reads_back m p (kind.Update b t try_no chunk last) h =
    rw (word_reads_back b h.0, chunk_or_null_reads_back chunk h.1, last_or_null_reads_back last h.2, word_reads_back t h.3, word_reads_back try_no h.4) refl
kind_reads_back m p (kind.Terminate b) h = rw (word_reads_back b h) refl
kind_reads_back m p (kind.Put digest size) h = rw (digest_reads_back digest h.0, word_reads_back size h.1) refl

-- the members that every entry has
record HasCommonMembers (d : Data) (m p : ℕ) (k : EntryKind) : Type 0 where
  name : field as_str (codes "k") d ≡ Some (kind_name k)
  moment : field (number_in (2 ^ 64)) (codes "m") d ≡ number_in (2 ^ 64) (whole m)
  pass : field (number_in (2 ^ 32)) (codes "p") d ≡ number_in (2 ^ 32) (whole p)

common_members : (m p : ℕ) (k : EntryKind) → HasCommonMembers (entry_data (record { moment = m; pass = p; kind = k })) m p k
unfolding entry_data
common_members m p (kind.Slice t to) = record { name = refl; moment = refl; pass = refl }
common_members m p (kind.Silence t) = record { name = refl; moment = refl; pass = refl }
common_members m p (kind.Dead b) = record { name = refl; moment = refl; pass = refl }
common_members m p (kind.Blob n kept) = record { name = refl; moment = refl; pass = refl }
common_members m p (kind.New t who request state slice from) = record { name = refl; moment = refl; pass = refl }
common_members m p (kind.Cancel t) = record { name = refl; moment = refl; pass = refl }
common_members m p (kind.Kill t) = record { name = refl; moment = refl; pass = refl }
common_members m p (kind.Handshake b id session dims q) = record { name = refl; moment = refl; pass = refl }
common_members m p (kind.Poll b dims q hint) = record { name = refl; moment = refl; pass = refl }
common_members m p (kind.Claim b t claim) = record { name = refl; moment = refl; pass = refl }
common_members m p (kind.Contact b) = record { name = refl; moment = refl; pass = refl }
common_members m p (kind.Event b e text) = record { name = refl; moment = refl; pass = refl }
common_members m p (kind.Update b t try_no chunk last) = record { name = refl; moment = refl; pass = refl }
common_members m p (kind.Terminate b) = record { name = refl; moment = refl; pass = refl }
common_members m p (kind.Put digest size) = record { name = refl; moment = refl; pass = refl }

pub entry_reads_back : (e : Entry) → HoldsEntry e → entry_in (entry_data e) ≡ Some e
unfolding entry_in
entry_reads_back e h =
    let common = common_members e.moment e.pass e.kind in
    rw (common.name, common.moment ∙ number_reads_back (2 ^ 64) e.moment h.0, common.pass ∙ word_reads_back e.pass h.1, kind_reads_back e.moment e.pass e.kind h.2) refl

-- ---- no floats, and few levels

dims_or_null_has_no_float : (o : Option BotDims) → has_float (or_null (list_data values_data) o) ≡ false
dims_or_null_has_no_float o = option_has_no_float (list_data values_data) dims_has_no_float o

text_or_null_has_no_float : (o : Option Text) → has_float (or_null string o) ≡ false
text_or_null_has_no_float o = option_has_no_float string (λ _. refl) o

pub entry_has_no_float : (m p : ℕ) (k : EntryKind) → has_float (entry_data (record { moment = m; pass = p; kind = k })) ≡ false
unfolding entry_data
entry_has_no_float m p (kind.Slice t to) = rw (outcome_has_no_float to) refl
entry_has_no_float m p (kind.New t who request state slice from) =
    rw (option_has_no_float whole (λ _. refl) from, request_has_no_float request, text_or_null_has_no_float (uuid_of request.request_uuid)) refl
entry_has_no_float m p (kind.Handshake b id session dims q) = rw (dims_has_no_float dims) refl
entry_has_no_float m p (kind.Poll b dims q hint) = rw (dims_or_null_has_no_float dims, text_or_null_has_no_float q) refl
entry_has_no_float m p (kind.Update b t try_no chunk last) = rw (option_has_no_float chunk_data (λ _. refl) chunk, option_has_no_float last_data last_has_no_float last) refl
entry_has_no_float m p (kind.Silence t) = refl
entry_has_no_float m p (kind.Dead b) = refl
entry_has_no_float m p (kind.Blob n kept) = refl
entry_has_no_float m p (kind.Cancel t) = refl
entry_has_no_float m p (kind.Kill t) = refl
entry_has_no_float m p (kind.Claim b t claim) = refl
entry_has_no_float m p (kind.Contact b) = refl
entry_has_no_float m p (kind.Event b e text) = refl
entry_has_no_float m p (kind.Terminate b) = refl
entry_has_no_float m p (kind.Put digest size) = refl

text_or_null_is_shallow : (o : Option Text) → depth (or_null string o) ≤ 0
text_or_null_is_shallow o = option_is_shallow string 0 (λ _. omega arith) o

pub entry_is_shallow : (m p : ℕ) (k : EntryKind) → depth (entry_data (record { moment = m; pass = p; kind = k })) ≤ 7
unfolding entry_data
entry_is_shallow m p (kind.Slice t to) = omega (arith, outcome_is_shallow to)
entry_is_shallow m p (kind.New t who request state slice from) =
    omega (arith, option_is_shallow whole 0 (λ _. omega arith) from, request_is_shallow request, text_or_null_is_shallow (uuid_of request.request_uuid))
entry_is_shallow m p (kind.Handshake b id session dims q) = omega (arith, dims_is_shallow dims)
entry_is_shallow m p (kind.Poll b dims q hint) = omega (arith, option_is_shallow (list_data values_data) 3 dims_is_shallow dims, text_or_null_is_shallow q)
entry_is_shallow m p (kind.Update b t try_no chunk last) = omega (arith, option_is_shallow chunk_data 1 chunk_is_shallow chunk, option_is_shallow last_data 3 last_is_shallow last)
entry_is_shallow m p (kind.Silence t) = omega arith
entry_is_shallow m p (kind.Dead b) = omega arith
entry_is_shallow m p (kind.Blob n kept) = omega arith
entry_is_shallow m p (kind.Cancel t) = omega arith
entry_is_shallow m p (kind.Kill t) = omega arith
entry_is_shallow m p (kind.Claim b t claim) = omega arith
entry_is_shallow m p (kind.Contact b) = omega arith
entry_is_shallow m p (kind.Event b e text) = omega arith
entry_is_shallow m p (kind.Terminate b) = omega arith
entry_is_shallow m p (kind.Put digest size) = omega arith
