-- Contents of 64 bytes in a region of four units, and their rows.
use Rattle.std.specs.Prelude.{ℕ, List, None, length}
use Rattle.blob_rows.specs.Extents.{extent_at}
use Rattle.blob_rows.specs.declared.blob_row.BlobRow.{BlobRow}
use Rattle.blob_rows.specs.BlobRows.{BlobRowsState}
use Rattle.content_store.specs.Contents.{Content}
use Rattle.content_store.specs.Plain.{ContentStoreState}

-- a content of this digest and number, which lies at a unit
abbrev pub content : List ℕ → ℕ → ℕ → Content
content digest number at = record { digest = digest; size = 64; number = number; extent = extent_at 1 at; bytes = None }

-- the row of such a content
abbrev pub row : List ℕ → ℕ → ℕ → BlobRow
row digest number at = record { no = number; digest = digest; size = 64; extent = extent_at 1 at; deadline = 100 }

abbrev pub store_of : List Content → ContentStoreState
store_of held = record { units = 4; names = 4; held = held }

-- these rows, where none was taken out
abbrev pub rows_of : List BlobRow → BlobRowsState
rows_of rows = record { rows = rows; placed = length rows; units = 4 }
