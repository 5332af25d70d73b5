-- The rows of blobs, and what a put and the end of a deadline leave of them.
use Rattle.std.specs.Prelude.{ℕ, Bool, ◌+◌, ◌/◌, ◌==◌, max, nat_le, not, List, [], ◌∷◌, ◌++◌, map, length, Option, is_some, if◌then◌else◌}
use Rattle.std.specs.List.{find}
use Rattle.std.specs.Option.{option_map_or}
use Rattle.blob_rows.specs.declared.extent.Extent.{Extent}
use Rattle.blob_rows.specs.Places.{least_place}
use Rattle.blob_rows.specs.Extents.{extent_at}
use Rattle.blob_rows.specs.declared.held.Held.{Held}
use Rattle.blob_rows.specs.declared.held.Held.TheVariants.{Placed, Present, NoNames, NoRoom}
use Rattle.blob_rows.specs.Digests.{same_digest}
use Rattle.blob_rows.specs.declared.blob_row.BlobRow.{BlobRow}

-- the rows, how many blobs were ever placed, and the units of the region
pub record BlobRowsState : Type 0 where
  pub rows : List BlobRow
  pub placed : ℕ
  pub units : ℕ

abbrev pub has_digest : List ℕ → BlobRow → Bool
has_digest digest row = same_digest row.digest digest

abbrev pub is_blob : ℕ → BlobRow → Bool
is_blob number row = row.no == number

abbrev pub is_other : ℕ → BlobRow → Bool
is_other number row = not (row.no == number)

abbrev pub blob_of : List BlobRow → List ℕ → Option BlobRow
blob_of rows digest = find (has_digest digest) rows

abbrev pub blob_numbered : List BlobRow → ℕ → Option BlobRow
blob_numbered rows number = find (is_blob number) rows

-- ---- deadlines

abbrev pub renewed : ℕ → BlobRow → BlobRow
renewed deadline row = record row { deadline = deadline }

abbrev pub renewed_until : ℕ → List ℕ → BlobRow → BlobRow
renewed_until deadline digest row = if has_digest digest row then renewed deadline row else row

abbrev pub longer_kept : ℕ → ℕ → BlobRow → BlobRow
longer_kept secs number row = if row.no == number then renewed (row.deadline + secs) row else row

-- ---- a put

-- how many units of 64 bytes a content takes, at least one
abbrev pub units_of : ℕ → ℕ
units_of size = max 1 ((size + 63) / 64)

abbrev pub extent_of_row : BlobRow → Extent
extent_of_row row = row.extent

abbrev pub place_for : BlobRowsState → ℕ → Option ℕ
place_for s size = least_place (map extent_of_row s.rows) s.units (units_of size)

abbrev pub new_blob : BlobRowsState → ℕ → List ℕ → ℕ → ℕ → BlobRow
new_blob s deadline digest size place =
    record { no = s.placed + 1; digest = digest; size = size; extent = extent_at (units_of size) place; deadline = deadline }

-- a blob is put: it is renewed where it is present, and placed where it is not
abbrev pub put : BlobRowsState → ℕ → List ℕ → ℕ → BlobRowsState
put s deadline digest size =
    option_map_or (λ row. record s { rows = map (renewed_until deadline digest) s.rows }) (blob_of s.rows digest)
    (option_map_or (λ place. record s { rows = s.rows ++ new_blob s deadline digest size place ∷ []; placed = s.placed + 1 }) (place_for s size) s)

-- what becomes of a blob that is put, where there may be so many
abbrev pub put_result : ℕ → BlobRowsState → List ℕ → ℕ → Held
put_result names s digest size =
    if is_some (blob_of s.rows digest) then Present
    else if nat_le names (length s.rows) then NoNames
    else option_map_or (λ at. Placed (extent_at (units_of size) at)) (place_for s size) NoRoom

-- ---- what is stored of a row

-- a digest with the size, the number and the extent of its content
pub record Stored : Type 0 where
  pub digest : List ℕ
  pub size : ℕ
  pub number : ℕ
  pub extent : Extent

abbrev pub stored_row : BlobRow → Stored
stored_row row = record { digest = row.digest; size = row.size; number = row.no; extent = row.extent }
