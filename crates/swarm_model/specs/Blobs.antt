-- Which blobs a pool holds, and for which it has a place.
use Rattle.std.specs.Prelude.{ℕ, Bool, true, false, not, List, Option, flat_map}
use Rattle.std.specs.List.{find}
use Rattle.blob_rows.specs.declared.held.Held.{Held}
use Rattle.blob_rows.specs.declared.held.Held.TheVariants as held
use Rattle.blob_rows.specs.BlobRows.{put_result}
use Rattle.swarm_model.specs.Types.{File, Slice, Chunk, PoolState}
use Rattle.swarm_model.specs.Finding.{has_blob}
use Rattle.swarm_model.specs.Effects.{blobs_in}

-- the most blobs of a pool
abbrev pub most_blobs : ℕ
most_blobs = 262144

-- ---- what is missing

-- no blob is the file's content, by digest and size
abbrev pub lacks : PoolState → File → Bool
lacks s file = not (has_blob s file.digest file.size)

abbrev pub lacks_chunk : PoolState → Chunk → Bool
lacks_chunk s chunk = not (has_blob s chunk.digest chunk.size)

-- the first file that no blob is
abbrev pub missing_file : PoolState → List File → Option File
missing_file s files = find (lacks s) files

-- the inputs of the slices, in their order
abbrev pub inputs_of : List Slice → List File
inputs_of slices = flat_map (λ slice. slice.properties.inputs) slices

-- ---- what has a place

-- what becomes of a blob that is put
abbrev pub probe : PoolState → List ℕ → ℕ → Held
probe s digest size = put_result most_blobs (blobs_in s) digest size

-- it is present, or has a place
abbrev pub is_taken : Held → Bool
is_taken (held.Placed extent) = true
is_taken held.Present = true
is_taken held.NoNames = false
is_taken held.NoRoom = false

abbrev pub can_take : PoolState → List ℕ → ℕ → Bool
can_take s digest size = is_taken (probe s digest size)
