-- The deadlines of a pool's blobs.
use Rattle.std.specs.Prelude.{◌≡◌, ◌≢◌, ◌↔◌, ◌⊎◌, List, map, Option, Some, None}
use Rattle.std.specs.List.{Contains}
use Rattle.std.specs.Option.{option_map, option_and_then}
use Rattle.index_laws.specs.Types.{BlobRow, Chunk, Deadline, PoolState, Entry, EntryKind}
use Rattle.blob_rows.specs.BlobRows.{blob_of, blob_numbered}
use Rattle.swarm_model.specs.declared.entry.EntryKind.TheVariants as kind
use Rattle.swarm_model.specs.Deadlines.{blob_end}
use Rattle.swarm_model.specs.Effects.{attempt_of, fresh_chunk, after}
use Rattle.swarm_model.specs.History.{MayFollow}
use Rattle.swarm_model.specs.Soundness.{IsSound}

-- the deadlines are those of the blobs, in any order
pub record AreBlobDeadlines (ends : List Deadline) (s : PoolState) : Type 0 where
  pub each : (d : Deadline) → Contains ends d ↔ Contains (map blob_end s.blobs) d

-- the blob of a chunk
abbrev pub blob_of_chunk : List BlobRow → Chunk → Option BlobRow
blob_of_chunk rows chunk = blob_of rows chunk.digest

-- of these rows the one that an entry of this kind may change: the blob whose life ends, that is put, or of the chunk that goes on from the output before the entry
abbrev pub touched_blob : PoolState → EntryKind → List BlobRow → Option BlobRow
touched_blob s (kind.Blob n kept) rows = blob_numbered rows n
touched_blob s (kind.Put digest size) rows = blob_of rows digest
touched_blob s (kind.Update b t try_no chunk last) rows = option_and_then (blob_of_chunk rows) (fresh_chunk (attempt_of s t) chunk)
touched_blob s entry rows = None

-- its deadline before the entry, and after it
abbrev pub blob_end_before : PoolState → Entry → Option Deadline
blob_end_before s e = option_map blob_end (touched_blob s e.kind s.blobs)

abbrev pub blob_end_after : PoolState → Entry → Option Deadline
blob_end_after s e = option_map blob_end (touched_blob s e.kind (after s e).blobs)

-- the deadlines without the one that goes, and with the one that comes
pub record AreMoved (gone come : Option Deadline) (old new : List Deadline) : Type 0 where
  pub each : (d : Deadline) → Contains new d ↔ ((come ≡ Some d) ⊎ (Contains old d × (gone ≢ Some d)))

-- after an entry only the deadline of the touched blob has to be moved
abbrev pub BlobDeadlinesFollow : Type 0
BlobDeadlinesFollow =
    (s : PoolState) (e : Entry) → IsSound s → MayFollow s e → (old new : List Deadline) → AreBlobDeadlines old s → AreMoved (blob_end_before s e) (blob_end_after s e) old new →
    AreBlobDeadlines new (after s e)
