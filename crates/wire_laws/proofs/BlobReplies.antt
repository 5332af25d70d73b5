-- Outputs and blobs are told by their bytes.
use Rattle.std.proofs.Common.{◌≡◌, ℕ, nat_lt, true, List, length, Ok, refl, ap, ◌∙◌, arith, All, le-leb}
use Rattle.std.specs.Prelude.{codes}
use Rattle.std.specs.Str.{IsUtf8}
use Rattle.std.proofs.lemmas.Str.{IsUtf8-from_ascii}
use Rattle.base64.specs.Engines.{standard}
use Rattle.base64.specs.GeneralPurpose.{IsBytes, IsConsistent, encode_of, decode_of}
use Rattle.base64.proofs.EngineFacts.{IsAscii-encode_of, decode_of-encode_of}
use Rattle.serde_json.specs.Data.{object}
use Rattle.swarm_model.specs.declared.reply.Part.{Part}
use Rattle.swarm_model.specs.declared.task_state.TaskState.{TaskState}
use Rattle.swarm_model.specs.declared.reply.Reply.TheVariants as reply
use Rattle.routes.specs.declared.route.Route.TheVariants as route
use Rattle.json_fields.specs.Fields.{present, required_text_in, optional_number_in, list_in, unknown_key, object_item}
use Rattle.line_parts.specs.Names.{state_reads_back}
use Rattle.reply_bodies.specs.Items.{blob_data}
use Rattle.reply_bodies.specs.Bodies.{body_of, joined, first_piece, reply_members}
use Rattle.server_calls.specs.Reading.{told_of, in_value}
use Rattle.server_calls.specs.Members.{with_keys, whole_in, digest_in, state_in}
use Rattle.server_calls.specs.Tasks.{stdout_in}
use Rattle.server_calls.specs.Blobs.{blob_in, missing_in, blob_of}
use Rattle.wire_laws.specs.Fitting.{FitsBlob, IsBlobSize}
use Rattle.wire_laws.specs.Told.{IsTold}
use Rattle.wire_laws.proofs.Readable.{IsReadable, are_readable, reading-compact_text}
use Rattle.wire_laws.proofs.Words.{state_utf8}
use Rattle.wire_laws.proofs.DigestTexts.{digest_is, digest_utf8}
use Rattle.wire_laws.proofs.MemberLemmas.{size_is, object_item_is, reads_list}

standard_is_consistent : IsConsistent standard
standard_is_consistent = refl

pub base64_utf8 : (bytes : List ℕ) → IsUtf8 (encode_of standard bytes)
base64_utf8 bytes = IsUtf8-from_ascii (encode_of standard bytes) (IsAscii-encode_of standard bytes)

pub base64_is : (bytes : List ℕ) → IsBytes bytes → decode_of standard (encode_of standard bytes) ≡ Ok bytes
base64_is bytes h = decode_of-encode_of standard bytes standard_is_consistent h

pub stdout_is_told : (place : ℕ) (state : TaskState) (parts : List Part) (pieces : List (List ℕ)) → IsBytes (joined parts pieces) → IsTold route.GetStdout place (reply.Stdout state parts) pieces
unfolding told_of body_of stdout_in with_keys unknown_key state_in required_text_in present
stdout_is_told place state parts pieces h =
    ap (in_value stdout_in) (reading-compact_text (object (reply_members place (reply.Stdout state parts) pieces)) (refl, refl, (base64_utf8 (joined parts pieces), (state_utf8 state, tt))))
    ∙ rw (state_reads_back state, base64_is (joined parts pieces) h) refl

pub blob_is_told : (place : ℕ) (digest : List ℕ) (size : ℕ) (pieces : List (List ℕ)) → IsBlobSize (length (first_piece pieces)) → IsTold route.GetBlob place (reply.Blob digest size) pieces
unfolding told_of body_of blob_of
blob_is_told place digest size pieces h = rw (le-leb (length (first_piece pieces)) 16777216 h) refl

blob_readable : (n : ℕ) → nat_lt 0 n ≡ true → (blob : List ℕ × ℕ) → FitsBlob blob → IsReadable n (blob_data blob)
blob_readable n room blob h = (room, refl, (digest_utf8 blob.0 h.0, (omega (arith, h.1), tt)))

blob_is : (blob : List ℕ × ℕ) → FitsBlob blob → blob_in (blob_data blob) ≡ Ok blob
unfolding blob_in with_keys unknown_key digest_in whole_in required_text_in optional_number_in present
blob_is blob h = rw (digest_is blob.0 h.0, size_is blob.1 h.1) refl

pub missing_is_told : (place : ℕ) (blobs : List (List ℕ × ℕ)) (pieces : List (List ℕ)) → All FitsBlob blobs → IsTold route.FindMissing place (reply.Missing blobs) pieces
unfolding told_of body_of missing_in with_keys unknown_key list_in present
missing_is_told place blobs pieces h =
    ap (in_value missing_in) (reading-compact_text (object (reply_members place (reply.Missing blobs) pieces)) (refl, refl, ((refl, are_readable blob_data FitsBlob 125 (blob_readable 125 refl) blobs h), tt)))
    ∙ rw (reads_list blob_data (object_item blob_in) FitsBlob (λ blob fits. object_item_is blob_in _ blob (blob_is blob fits)) (codes "blobs") blobs h) refl
