-- What the replies of the calls on blobs tell.
use Rattle.std.specs.Prelude.{ℕ, nat_le, List, [], ◌∷◌, length, Option, Some, None, if◌then◌else◌, Result, Ok, codes}
use Rattle.sha2.specs.Sha256.{sha256}
use Rattle.serde_json.specs.Data.{Data}
use Rattle.task_props.specs.declared.prop_fault.PropFault.{PropFault}
use Rattle.swarm_model.specs.declared.reply.Reply.TheVariants as reply
use Rattle.json_fields.specs.Readings.{◌>>=◌}
use Rattle.json_fields.specs.Fields.{object_item, each_at}
use Rattle.server_calls.specs.declared.told.Told.{Told}
use Rattle.server_calls.specs.declared.told.Told.TheVariants.{Good}
use Rattle.server_calls.specs.Members.{with_keys, flag_in, whole_in, digest_in}
use Rattle.server_calls.specs.Tasks.{good}

-- a blob, by its digest and its size
unfoldable pub blob_in : Data → Result (List ℕ × ℕ) PropFault
blob_in d = do
  o ← with_keys (codes "digest" ∷ codes "size" ∷ []) d
  digest ← digest_in (codes "digest") d
  size ← whole_in (codes "size") 16777216 d
  Ok (digest, size)

-- FindMissing
unfoldable pub missing_in : Data → Result Told PropFault
missing_in d = do
  o ← with_keys (codes "blobs" ∷ []) d
  blobs ← each_at (object_item blob_in) (codes "blobs") d
  Ok (good 0 (reply.Missing blobs))

-- PutBlob
unfoldable pub put_in : Data → Result Told PropFault
put_in d = do
  o ← with_keys (codes "fresh" ∷ []) d
  fresh ← flag_in (codes "fresh") d
  Ok (good 0 (reply.Put fresh))

-- GetBlob: the body is the blob, which has at most 16777216 bytes
unfoldable pub blob_of : List ℕ → Option Told
blob_of body = if nat_le (length body) 16777216 then Some (Good 0 (reply.Blob (sha256 body) (length body)) body) else None
