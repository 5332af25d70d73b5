-- What contracts see of the blobs: their rows, and the store that is tied to them.
use Rattle.std.specs.Prelude.{◌≡◌, ℕ, ◌≤◌, nat_lt, List, map, Option, Some, None}
use Rattle.std.specs.List.{count_by}
use Rattle.blob_rows.specs.SameItems.{SameItems}
use Rattle.blob_rows.specs.declared.blob_row.BlobRow.{BlobRow}
use Rattle.blob_rows.specs.BlobRows.{BlobRowsState, has_digest, is_blob, Stored, stored_row}
use Rattle.content_store.specs.Contents.{Content, without_content}
use Rattle.content_store.specs.Plain.{ContentStoreState}

-- the rows, in the order in which they were placed, how many were ever placed, and the store of their contents
pub record BlobsState : Type 0 where
  pub rows : List BlobRow
  pub placed : ℕ
  pub store : ContentStoreState

-- the rows beside a store
abbrev pub rows_beside : List BlobRow → ℕ → ContentStoreState → BlobRowsState
rows_beside rows placed store = record { rows = rows; placed = placed; units = store.units }

abbrev pub rows_in : BlobsState → BlobRowsState
rows_in blobs = rows_beside blobs.rows blobs.placed blobs.store

-- what is held without the content of a row
abbrev pub held_without : Option BlobRow → List Content → List Content
held_without None held = held
held_without (Some row) held = without_content row.digest held

-- ---- what ties the rows to the store

abbrev pub stored_content : Content → Stored
stored_content content = record { digest = content.digest; size = content.size; number = content.number; extent = content.extent }

-- the store holds exactly the digests of the rows, each with its size, its number and at its extent; no digest
-- and no number stands twice, and no number is above that of the last blob that was placed
pub record AreStored (rows : List BlobRow) (placed : ℕ) (held : List Content) : Type 0 where
  pub same : SameItems (map stored_row rows) (map stored_content held)
  pub digests : (digest : List ℕ) → count_by (has_digest digest) rows ≤ 1
  pub numbers : (number : ℕ) → count_by (is_blob number) rows ≤ 1
  pub numbered : count_by (λ row. nat_lt placed row.no) rows ≡ 0
