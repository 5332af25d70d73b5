-- What the rows and the store keep, and what holds of them.
use Rattle.std.specs.Prelude.{◌≤◌}
use Rattle.std.specs.VecDeque.{deque_capacity}
use Rattle.content_store.specs.declared.blobs.Blobs.TheInside.{Inside}
use Rattle.content_store.specs.StoredRows.{BlobsState, AreStored}
use Rattle.content_store.specs.RowOrder.{NumbersRise}

abbrev pub kept_of : Inside → BlobsState
kept_of blobs = record { rows = blobs.rows.items; placed = blobs.placed; store = blobs.store }

-- the rows are tied to the store, their numbers rise, and there is room for as many as the store has names
pub record IsKept (blobs : Inside) : Type 0 where
  pub stored : AreStored blobs.rows.items blobs.placed blobs.store.held
  pub rising : NumbersRise blobs.rows.items
  pub room : blobs.store.names ≤ deque_capacity blobs.rows
