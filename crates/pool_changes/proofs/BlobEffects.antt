-- What an entry that may follow does to the blobs.
use Rattle.std.proofs.Common.{◌≡◌, ℕ, ◌+◌, ◌≤◌, ◌^◌, true, false, List, length, Option, Some, None, refl, sym, ap, ◌∙◌, subst, arith}
use Rattle.std.specs.Option.{option_and_then, option_map_or}
use Rattle.std.specs.Prelude.{is_none}
use Rattle.sha2.specs.Sha256.{sha256}
use Rattle.dimensions.specs.Choosing.{when}
use Rattle.blob_rows.specs.declared.held.Held.{Held}
use Rattle.blob_rows.specs.BlobRows.{BlobRowsState, put_result}
use Rattle.content_store.specs.StoredRows.{rows_in}
use Rattle.swarm_model.specs.declared.attempt.Attempt.{Attempt}
use Rattle.swarm_model.specs.declared.attempt.Chunk.{Chunk}
use Rattle.swarm_model.specs.declared.pool_state.PoolState.{PoolState}
use Rattle.swarm_model.specs.declared.entry.Entry.{Entry}
use Rattle.swarm_model.specs.declared.entry.EntryKind.{EntryKind}
use Rattle.swarm_model.specs.declared.entry.EntryKind.TheVariants as kind
use Rattle.swarm_model.specs.Blobs.{probe, is_taken, can_take}
use Rattle.swarm_model.specs.Bytes.{HeldBytes, with_new, held_after}
use Rattle.swarm_model.specs.Effects.{life, blobs_in, with_rows, put_chunk, with_blobs, fresh_chunk, attempt_of}
use Rattle.swarm_model.specs.Finding.{blob_of}
use Rattle.swarm_model.specs.History.{MayFollow}
use Rattle.swarm_model.specs.Soundness.{IsSound}
use Rattle.pool_laws.proofs.Preconditions.{Finds}
use Rattle.pool_laws.proofs.EntryPreconditions.{finds}
use Rattle.pool_laws.proofs.Outputs.{fresh_next}
use Rattle.pool_laws.proofs.BlobChanges.{update_attempt, update_takes}
use Rattle.pool_laws.proofs.BlobLaws.{chunk_fits}
use Rattle.row_changes.specs.Output.{run_of, StaysShort}
use Rattle.content_store.specs.Plain.{ContentStoreState}
use Rattle.content_store.specs.StoredRows.{BlobsState}
use Rattle.pool_changes.specs.Blobs.{IsOfPool, AreBytesOf, AreBrought, KeepsShort, put_of, blob_effect, CanChange, rows_with, held_with}

-- the rows after the effect of an entry
pub with_blobs_is : (s : PoolState) (m : ℕ) (k : EntryKind) → with_rows (rows_with (life s) m (blob_effect s k) (blobs_in s)) s ≡ with_blobs s m k
with_blobs_is s m (kind.Blob n true) = refl
with_blobs_is s m (kind.Blob n false) = refl
with_blobs_is s m (kind.Put digest size) = refl
with_blobs_is s m (kind.Update b t try_no chunk last) = by_chunk (fresh_chunk (attempt_of s t) chunk)
  where
    by_chunk : (o : Option Chunk) → with_rows (rows_with (life s) m (put_of o) (blobs_in s)) s ≡ put_chunk s m o
    by_chunk None = refl
    by_chunk (Some c) = refl
with_blobs_is s m k = refl

-- and the bytes that are held
pub held_is : (s : PoolState) (k : EntryKind) (bytes : Option (List ℕ)) (held : HeldBytes) → held_with (blob_effect s k) s.blobs bytes held ≡ held_after s k bytes held
held_is s (kind.Blob n true) bytes held = refl
held_is s (kind.Blob n false) bytes held = refl
held_is s (kind.Put digest size) bytes held = refl
held_is s (kind.Update b t try_no chunk last) bytes held = by_chunk (fresh_chunk (attempt_of s t) chunk)
  where
    by_chunk : (o : Option Chunk) → held_with (put_of o) s.blobs bytes held ≡ with_new (option_and_then (λ (c : Chunk). when (is_none (blob_of s c.digest)) c.digest) o) bytes held
    by_chunk None = refl
    by_chunk (Some c) = refl
held_is s k bytes held = refl

own_bytes : (digest : List ℕ) (size : ℕ) (bytes : Option (List ℕ)) → AreBrought (kind.Put digest size) bytes → AreBytesOf digest size bytes
own_bytes digest size None brought = tt
own_bytes digest size (Some b) brought =
    let own : sha256 b ≡ digest = sym (ap (λ (o : Option (List ℕ × ℕ)). option_map_or (λ (pair : List ℕ × ℕ). pair.0) o digest) brought) in
    let sized : length b ≡ size = sym (ap (λ (o : Option (List ℕ × ℕ)). option_map_or (λ (pair : List ℕ × ℕ). pair.1) o size) brought) in
    (own, sized)

-- the blobs of a pool, over a store
abbrev pub blobs_over : PoolState → ContentStoreState → BlobsState
blobs_over s store = record { rows = s.blobs; placed = s.placed; store = store }

module _ (s : PoolState) (store : ContentStoreState) (of_pool : IsOfPool s.settings (blobs_over s store)) where
  abbrev blobs : BlobsState
  blobs = blobs_over s store

  -- what would become of a blob that is put
  pub probe_is : (digest : List ℕ) (size : ℕ) → put_result store.names (rows_in blobs) digest size ≡ probe s digest size
  probe_is digest size =
      λ i. put_result (of_pool.names i) (let x : BlobRowsState = record { rows = s.blobs; placed = s.placed; units = of_pool.units i } in x) digest size

  taken_is : (digest : List ℕ) (size : ℕ) → can_take s digest size ≡ true → is_taken (put_result store.names (rows_in blobs) digest size) ≡ true
  taken_is digest size taken = ap (λ (h : Held). is_taken h) (probe_is digest size) ∙ taken

  module _ (e : Entry) (sound : IsSound s) (follows : MayFollow s e) (bytes : Option (List ℕ)) (short : life s ≤ 2 ^ 32) where
    by_kind : (k : EntryKind) → Finds s k → AreBrought k bytes → CanChange (life s) (blob_effect s k) blobs bytes
    by_kind (kind.Blob n true) f brought = λ k d low. let early = (sound.blobs k d low).deadline in let last = sound.last in omega (arith, early, last, short)
    by_kind (kind.Blob n false) f brought = tt
    by_kind (kind.Put digest size) f brought = (taken_is digest size f, own_bytes digest size bytes brought)
    by_kind (kind.Update b t try_no chunk last) f brought = by_chunk (fresh_chunk (attempt_of s t) chunk) refl
      where
        by_chunk : (o : Option Chunk) → fresh_chunk (attempt_of s t) chunk ≡ o → CanChange (life s) (put_of o) blobs bytes
        by_chunk None is = tt
        by_chunk (Some c) is =
            (let fresh : fresh_chunk (Some f.attempt) chunk ≡ Some c = ap (λ (o : Option Attempt). fresh_chunk o chunk) (sym (update_attempt s b t chunk last f)) ∙ is in
            let own : chunk ≡ Some c = (fresh_next f.attempt chunk c fresh).0 in
            let may = update_takes s b t chunk last f c is in
            (taken_is c.digest c.size may.0, own_bytes c.digest c.size bytes (subst (λ (o : Option Chunk). AreBrought (kind.Update b t try_no o last) bytes) own brought)))
    by_kind k f brought = tt

    pub can_change : AreBrought e.kind bytes → CanChange (life s) (blob_effect s e.kind) blobs bytes
    can_change = by_kind e.kind (finds s e follows)

-- the output of a run stays short
pub keeps_short : (s : PoolState) (e : Entry) → MayFollow s e → KeepsShort s.tasks e.kind
keeps_short s e follows = of_kind e.kind refl
  where
    fits : (c : Chunk) (run : Option Attempt) → c.start + c.size ≤ 67108864 → StaysShort run (Some c)
    fits c None within = tt
    fits c (Some attempt) within = λ at. omega (arith, within, at)

    of_kind : (k : EntryKind) → e.kind ≡ k → KeepsShort s.tasks k
    of_kind (kind.Update b t try_no (Some c) last) is = fits c (run_of s.tasks t) (chunk_fits s e b t try_no c last follows is)
    of_kind (kind.Update b t try_no None last) is = tt
    of_kind k is = tt
