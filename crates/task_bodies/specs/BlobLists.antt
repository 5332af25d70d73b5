-- The body that asks which blobs a pool doesn't hold.
use Rattle.std.specs.Prelude.{ℕ, Bool, List, Result, Ok, codes}
use Rattle.serde_json.specs.Data.{Data}
use Rattle.task_props.specs.declared.prop_fault.PropFault.{PropFault}
use Rattle.swarm_model.specs.Fits.{is_blob_size}
use Rattle.json_fields.specs.Readings.{◌>>=◌}
use Rattle.json_fields.specs.Fields.{required_text_at, number_at, object_item, items_at}
use Rattle.json_fields.specs.Digests.{digest_at}
use Rattle.json_fields.specs.Ranges.{whole_at}
use Rattle.json_fields.specs.Checks.{checked_items}
use Rattle.task_bodies.specs.declared.blob_lists.RawBlob.{RawBlob}

-- ---- fields

unfoldable pub raw_blob_in : Data → Result RawBlob PropFault
raw_blob_in d = do
  digest ← required_text_at (codes "digest") d
  size ← number_at (codes "size") d
  Ok (record { digest = digest; size = size })

-- an absent list is empty
abbrev pub raw_blobs_in : Data → Result (List RawBlob) PropFault
raw_blobs_in d = items_at (object_item raw_blob_in) (codes "blobs") d

-- ---- rules

unfoldable pub blob_of : RawBlob → Result (List ℕ × ℕ) PropFault
blob_of raw = do
  digest ← digest_at (codes "digest") raw.digest
  size ← whole_at (codes "size") 0 16777216 raw.size
  Ok (digest, size)

abbrev pub has_blob_size : List ℕ × ℕ → Bool
has_blob_size blob = is_blob_size blob.1

-- at most 512 blobs, by their digests and sizes; all fields are read before the other rules are tried
unfoldable pub blobs_in : Data → Result (List (List ℕ × ℕ)) PropFault
blobs_in d = do
  raws ← raw_blobs_in d
  checked_items blob_of (codes "blobs") 512 raws
