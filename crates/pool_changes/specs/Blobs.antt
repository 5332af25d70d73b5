-- What an entry does to the blobs, and to the bytes that are held.
use Rattle.std.specs.Prelude.{◌≡◌, ℕ, Bool, true, false, ◌+◌, ◌<◌, ◌^◌, ⊤, IsTrue, List, length, map, Option, Some, None, IfSome, is_none}
use Rattle.std.specs.List.{All, filter}
use Rattle.std.specs.Option.{option_map}
use Rattle.sha2.specs.Sha256.{sha256}
use Rattle.blob_rows.specs.declared.blob_row.BlobRow.{BlobRow}
use Rattle.blob_rows.specs.BlobRows.{BlobRowsState, blob_of, blob_numbered, is_other, longer_kept, put, put_result}
use Rattle.content_store.specs.Contents.{bytes_of}
use Rattle.content_store.specs.Plain.{fill_result, held_after_fill}
use Rattle.content_store.specs.StoredRows.{BlobsState, rows_in}
use Rattle.dimensions.specs.Choosing.{when}
use Rattle.swarm_model.specs.declared.attempt.Chunk.{Chunk}
use Rattle.swarm_model.specs.declared.task_row.TaskRow.{TaskRow}
use Rattle.swarm_model.specs.declared.pool_settings.PoolSettings.{PoolSettings}
use Rattle.swarm_model.specs.declared.pool_state.PoolState.{PoolState}
use Rattle.swarm_model.specs.declared.entry.EntryKind.{EntryKind}
use Rattle.swarm_model.specs.declared.entry.EntryKind.TheVariants as kind
use Rattle.swarm_model.specs.Blobs.{most_blobs, is_taken}
use Rattle.swarm_model.specs.Bytes.{HeldBytes, brings, with_new, without_removed}
use Rattle.swarm_model.specs.Effects.{fresh_chunk, attempt_of}
use Rattle.row_changes.specs.Output.{run_of, StaysShort}
use Rattle.pool_changes.specs.declared.effects.BlobEffect.{BlobEffect}
use Rattle.pool_changes.specs.declared.effects.BlobEffect.TheVariants as effect

-- the bytes that are held, by their digests
abbrev pub held_in : BlobsState → HeldBytes
held_in blobs digest = bytes_of blobs.store.held digest

-- the store is as large as the settings say
pub record IsOfPool (settings : PoolSettings) (blobs : BlobsState) : Type 0 where
  pub units : blobs.store.units ≡ settings.store_units
  pub names : blobs.store.names ≡ most_blobs

-- bytes that come are those of the digest and of the size
abbrev pub AreBytesOf : List ℕ → ℕ → Option (List ℕ) → Type 0
AreBytesOf digest size bytes = IfSome bytes (λ b. (sha256 b ≡ digest) × (length b ≡ size))

-- the blobs with the bytes of one, where they come
abbrev pub with_filled : List ℕ → Option (List ℕ) → BlobsState → BlobsState
with_filled digest None blobs = blobs
with_filled digest (Some bytes) blobs =
    record blobs {
      store = record blobs.store { held = held_after_fill (fill_result blobs.store.held digest bytes) digest bytes blobs.store.held };
    }

-- ---- what an entry does to the blobs

-- a chunk that is kept is put
abbrev pub put_of : Option Chunk → BlobEffect
put_of None = effect.Nothing
put_of (Some chunk) = effect.Put chunk.digest chunk.size

-- what becomes of a blob whose life has ended
abbrev pub end_of : ℕ → Bool → BlobEffect
end_of number true = effect.KeepLonger number
end_of number false = effect.Remove number

-- the chunk of an entry, where it goes on from the output that is kept
abbrev pub fresh_in : PoolState → EntryKind → Option Chunk
fresh_in s (kind.Update b t try_no chunk last) = fresh_chunk (attempt_of s t) chunk
fresh_in s entry = None

-- what an entry with such a chunk does
abbrev pub effect_of : Option Chunk → EntryKind → BlobEffect
effect_of fresh (kind.Blob n kept) = end_of n kept
effect_of fresh (kind.Update b t try_no chunk last) = put_of fresh
effect_of fresh (kind.Put digest size) = effect.Put digest size
effect_of fresh entry = effect.Nothing

abbrev pub blob_effect : PoolState → EntryKind → BlobEffect
blob_effect s k = effect_of (fresh_in s k) k

-- bytes that come are those that an entry of this kind brings
abbrev pub AreBrought : EntryKind → Option (List ℕ) → Type 0
AreBrought k bytes = IfSome bytes (λ b. brings k ≡ Some (sha256 b, length b))

-- the output with the chunk of an entry is short
abbrev pub KeepsShort : List TaskRow → EntryKind → Type 0
KeepsShort tasks (kind.Update b t try_no chunk last) = StaysShort (run_of tasks t) chunk
KeepsShort tasks entry = ⊤

-- a blob that is put is taken, with its own bytes where some come; one that is kept has an early deadline
abbrev pub CanChange : ℕ → BlobEffect → BlobsState → Option (List ℕ) → Type 0
CanChange life (effect.Put digest size) blobs bytes =
    IsTrue (is_taken (put_result blobs.store.names (rows_in blobs) digest size)) × AreBytesOf digest size bytes
CanChange life (effect.KeepLonger number) blobs bytes = All (λ row. row.deadline + life < 2 ^ 64) blobs.rows
CanChange life (effect.Remove number) blobs bytes = ⊤
CanChange life effect.Nothing blobs bytes = ⊤

-- the rows after it, at a moment and with a life of so many seconds
abbrev pub rows_with : ℕ → ℕ → BlobEffect → BlobRowsState → BlobRowsState
rows_with life moment (effect.Put digest size) rows = put rows (moment + life) digest size
rows_with life moment (effect.KeepLonger number) rows = record rows { rows = map (longer_kept life number) rows.rows }
rows_with life moment (effect.Remove number) rows = record rows { rows = filter (is_other number) rows.rows }
rows_with life moment effect.Nothing rows = rows

-- the bytes that are held after it, where these bytes come
abbrev pub held_with : BlobEffect → List BlobRow → Option (List ℕ) → HeldBytes → HeldBytes
held_with (effect.Put digest size) rows bytes held = with_new (when (is_none (blob_of rows digest)) digest) bytes held
held_with (effect.KeepLonger number) rows bytes held = held
held_with (effect.Remove number) rows bytes held = without_removed (option_map (λ row. row.digest) (blob_numbered rows number)) held
held_with effect.Nothing rows bytes held = held
