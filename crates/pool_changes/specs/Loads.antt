-- The blobs of a base, which are loaded one after the other.
use Rattle.std.specs.Prelude.{◌≡◌, ℕ, ◌+◌, ◌<◌, ◌≤◌, ◌^◌, IsTrue, take, map, length, None}
use Rattle.std.specs.List.{AllWithin}
use Rattle.blob_rows.specs.declared.blob_row.BlobRow.{BlobRow}
use Rattle.blob_rows.specs.Places.{is_free}
use Rattle.blob_rows.specs.BlobRows.{blob_of, extent_of_row, units_of}
use Rattle.content_store.specs.StoredRows.{BlobsState}
use Rattle.swarm_model.specs.declared.pool_state.PoolState.{PoolState}
use Rattle.swarm_model.specs.Bytes.{nothing_held}
use Rattle.pool_changes.specs.Blobs.{held_in, IsOfPool}

-- the row comes behind those that are there: with a higher number, a digest of its own, and units that are free
pub record IsNextBlob (blobs : BlobsState) (row : BlobRow) : Type 0 where
  pub above : blobs.placed < row.no
  pub number : row.no < 2 ^ 32
  pub fresh : blob_of blobs.rows row.digest ≡ None
  pub few : length blobs.rows < blobs.store.names
  pub units : row.extent.units ≡ units_of row.size
  pub inside : row.extent.at + row.extent.units ≤ blobs.store.units
  pub free : IsTrue (is_free (map extent_of_row blobs.rows) row.extent.units row.extent.at)

-- the rows of a base before this place are there, those from it on have higher numbers, and no bytes are held
pub record AreLoaded (base : PoolState) (place : ℕ) (blobs : BlobsState) : Type 0 where
  pub rows : blobs.rows ≡ take place base.blobs
  pub above : AllWithin (λ row. blobs.placed < row.no) base.blobs place (length base.blobs)
  pub placed : blobs.placed ≤ base.placed
  pub of_pool : IsOfPool base.settings blobs
  pub held : held_in blobs ≡ nothing_held
