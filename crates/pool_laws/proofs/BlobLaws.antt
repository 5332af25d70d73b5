-- What the layers above need of blobs.
use Rattle.std.proofs.Common.{◌≡◌, ℕ, ◌+◌, ◌<◌, ◌≤◌, ◌==◌, Bool, true, false, cond, List, [], ◌∷◌, ◌++◌, length, refl, sym, ap, ◌∙◌, subst, arith, Option, Some, None, IsTrue, is_some, is_none, filter}
use Rattle.std.specs.List.{All}
use Rattle.std.specs.Option.{option_map, option_and_then}
use Rattle.std.proofs.lemmas.Bool.{cond_both, both_ways, not-true}
use Rattle.std.proofs.lemmas.Option.{same_Some}
use Rattle.std.proofs.lemmas.List.Elements.{All-map, All-filter, All-push, All-weaker}
use Rattle.dimensions.specs.Alike.{same}
use Rattle.dimensions.specs.Choosing.{when}
use Rattle.pool_laws.specs.Types.{BlobRow, PoolSettings, Chunk, Last, PoolState, Entry, EntryKind}
use Rattle.blob_rows.specs.BlobRows.{has_digest, is_blob, is_other, renewed, renewed_until, longer_kept, new_blob, place_for}
use Rattle.swarm_model.specs.declared.entry.EntryKind.TheVariants as kind
use Rattle.swarm_model.specs.Blobs.{most_blobs}
use Rattle.swarm_model.specs.Bytes.{HeldBytes, new_digest, with_bytes, without_bytes, with_new, without_removed, held_after}
use Rattle.swarm_model.specs.Effects.{opening, life, blobs_in, put, put_chunk, with_blobs, fresh_chunk, attempt_of, after}
use Rattle.swarm_model.specs.Finding.{blob_of, blob_numbered}
use Rattle.swarm_model.specs.History.{MayFollow, replay}
use Rattle.swarm_model.specs.MachineState.{MachineState, AreHeld}
use Rattle.swarm_model.specs.Soundness.{IsSound}
use Rattle.pool_laws.proofs.Alike.{same_self}
use Rattle.pool_laws.proofs.Lists.{Among, Found, each, all, find_is, filter_is, found_once}
use Rattle.pool_laws.proofs.Preconditions.{Finds}
use Rattle.pool_laws.proofs.EntryPreconditions.{finds}
use Rattle.pool_laws.proofs.Outputs.{fit_chunk}
use Rattle.pool_laws.proofs.BlobChanges.{after_place, after_put, has_place, update_takes}

-- ---- how many were placed

placed_put : (s : PoolState) (m : ℕ) (digest : List ℕ) (size : ℕ) → (put s m digest size).placed ≤ s.placed + 1
placed_put s m digest size = by_row (blob_of s digest)
  where
    by_place : (o : Option ℕ) → (after_place s m digest size o).placed ≤ s.placed + 1
    by_place None = omega arith
    by_place (Some place) = omega arith

    by_row : (o : Option BlobRow) → (after_put s m digest size o).placed ≤ s.placed + 1
    by_row None = by_place (place_for (blobs_in s) size)
    by_row (Some row) = omega arith

placed_chunk : (s : PoolState) (m : ℕ) (o : Option Chunk) → (put_chunk s m o).placed ≤ s.placed + 1
placed_chunk s m None = omega arith
placed_chunk s m (Some chunk) = placed_put s m chunk.digest chunk.size

placed_after : (s : PoolState) (m : ℕ) (k : EntryKind) → (with_blobs s m k).placed ≤ s.placed + 1
placed_after s m (kind.Blob n true) = omega arith
placed_after s m (kind.Blob n false) = omega arith
placed_after s m (kind.Update b t try_no chunk last) = placed_chunk s m (fresh_chunk (attempt_of s t) chunk)
placed_after s m (kind.Put digest size) = placed_put s m digest size
placed_after s m entry = omega arith

pub placed_through : (s : PoolState) (log : List Entry) → (replay s log).placed ≤ s.placed + length log
placed_through s [] = omega arith
placed_through s (e ∷ log) = let first = placed_after s e.moment e.kind in let rest = placed_through (after s e) log in omega (arith, first, rest)

-- a log places at most one blob an entry
pub placed_few : (settings : PoolSettings) (log : List Entry) → (replay (opening settings) log).placed ≤ length log
placed_few settings log = let all = placed_through (opening settings) log in omega (arith, all)

-- ---- what an entry finds

absent_from : (o : Option BlobRow) (digest new : List ℕ) → when (is_none o) digest ≡ Some new → o ≡ None
absent_from None digest new is = refl
absent_from (Some row) digest new is = absurd (cc (is))

few_by : (s : PoolState) (k : EntryKind) (digest : List ℕ) → Finds s k → new_digest s k ≡ Some digest → length s.blobs < most_blobs
few_by s (kind.Put named size) digest f new = (has_place s named size f (absent_from (blob_of s named) named digest new)).0
few_by s (kind.Update b t try_no chunk last) digest f new = by_fresh (fresh_chunk (attempt_of s t) chunk) refl new
  where
    by_fresh : (o : Option Chunk) → fresh_chunk (attempt_of s t) chunk ≡ o → option_and_then (λ c. when (is_none (blob_of s c.digest)) c.digest) o ≡ Some digest → length s.blobs < most_blobs
    by_fresh None is h = absurd (cc (h))
    by_fresh (Some c) is h = (has_place s c.digest c.size (update_takes s b t chunk last f c is).0 (absent_from (blob_of s c.digest) c.digest digest h)).0
few_by s entry digest f new = absurd (cc (new))

-- there is room for a blob that an entry places
pub few_of_new : (s : PoolState) (e : Entry) (digest : List ℕ) → MayFollow s e → new_digest s e.kind ≡ Some digest → length s.blobs < most_blobs
few_of_new s e digest follows new = few_by s e.kind digest (finds s e follows) new

-- the chunk of a report ends within the most bytes of an output
pub chunk_fits : (s : PoolState) (e : Entry) (b t try_no : ℕ) (chunk : Chunk) (last : Option Last) → MayFollow s e → e.kind ≡ kind.Update b t try_no (Some chunk) last → chunk.start + chunk.size ≤ 67108864
chunk_fits s e b t try_no chunk last follows is = (fit_chunk chunk (subst (Finds s) is (finds s e follows)).fits).end

-- ---- the bytes

abbrev Has : HeldBytes → BlobRow → Type 0
Has held blob = IsTrue (is_some (held blob.digest))

-- other deadlines leave the digests
has_renewed : (held : HeldBytes) (t : Bool) (deadline : ℕ) (row : BlobRow) → Has held row → Has held (cond t (renewed deadline row) row)
has_renewed held true deadline row h = h
has_renewed held false deadline row h = h

-- bytes that came are held beside the others
has_more : (held : HeldBytes) (digest bytes : List ℕ) (row : BlobRow) → Has held row → Has (with_bytes digest bytes held) row
has_more held digest bytes row h = cond_both (same row.digest digest) (Some bytes) (held row.digest) (λ (o : Option (List ℕ)). IsTrue (is_some o)) (λ t. refl) (λ t. h)

module _ (s : PoolState) (m : ℕ) (bytes : Option (List ℕ)) (held : HeldBytes) (has : All (Has held) s.blobs) where
  put_held : (digest : List ℕ) (size : ℕ) → (IsTrue (is_some (when (is_none (blob_of s digest)) digest)) → IsTrue (is_some bytes)) →
      All (Has (with_new (when (is_none (blob_of s digest)) digest) bytes held)) (put s m digest size).blobs
  put_held digest size comes = by_row (blob_of s digest) comes
    where
      by_place : (b : List ℕ) (o : Option ℕ) → All (Has (with_bytes digest b held)) (after_place s m digest size o).rows
      by_place b None = All-weaker (Has held) (Has (with_bytes digest b held)) (has_more held digest b) s.blobs has
      by_place b (Some place) =
          All-push (Has (with_bytes digest b held)) s.blobs (new_blob (blobs_in s) (m + life s) digest size place)
          (All-weaker (Has held) (Has (with_bytes digest b held)) (has_more held digest b) s.blobs has) (rw (same_self digest) refl)

      by_bytes : (o : Option (List ℕ)) → is_some o ≡ true → All (Has (with_new (Some digest) o held)) (after_place s m digest size (place_for (blobs_in s) size)).rows
      by_bytes None there = absurd (cc (there))
      by_bytes (Some b) there = by_place b (place_for (blobs_in s) size)

      by_row : (o : Option BlobRow) → (IsTrue (is_some (when (is_none o) digest)) → IsTrue (is_some bytes)) → All (Has (with_new (when (is_none o) digest) bytes held)) (after_put s m digest size o).rows
      by_row (Some row) come =
          All-map (Has held) (renewed_until (m + life s) digest) s.blobs
          (All-weaker (Has held) (λ x. Has held (renewed_until (m + life s) digest x)) (λ x h. has_renewed held (has_digest digest x) (m + life s) x h) s.blobs has)
      by_row None come = by_bytes bytes (come refl)

  chunk_held : (o : Option Chunk) → (IsTrue (is_some (option_and_then (λ c. when (is_none (blob_of s c.digest)) c.digest) o)) → IsTrue (is_some bytes)) →
      All (Has (with_new (option_and_then (λ c. when (is_none (blob_of s c.digest)) c.digest) o) bytes held)) (put_chunk s m o).blobs
  chunk_held None comes = has
  chunk_held (Some c) comes = put_held c.digest c.size comes

  -- a removal takes out the bytes of its row alone
  removed_held : (n : ℕ) → IsSound s → All (Has (without_removed (option_map (λ blob. blob.digest) (blob_numbered s n)) held)) (filter (is_other n) s.blobs)
  removed_held n o = by_row (blob_numbered s n) refl
    where
      others : (blob : BlobRow) → blob_numbered s n ≡ Some blob → (x : BlobRow) → Among x (filter (is_other n) s.blobs) → Has (without_bytes blob.digest held) x
      others blob is x a =
          (let f : Found (is_other n) s.blobs x = filter_is (is_other n) s.blobs x a in
          let g : Found (is_blob n) s.blobs blob = find_is (is_blob n) s.blobs blob is in
          cond_both (same x.digest blob.digest) None (held x.digest) (λ (r : Option (List ℕ)). IsTrue (is_some r))
          (λ t. let one : x ≡ blob = same_Some _ _ (sym (found_once (has_digest blob.digest) s.blobs x f.among t (o.digests blob.digest))
          ∙ found_once (has_digest blob.digest) s.blobs blob g.among (same_self blob.digest) (o.digests blob.digest)) in
          absurd (both_ways (x.no == n) (not-true (x.no == n) f.passes) (ap (λ (y : BlobRow). y.no == n) one ∙ g.passes)))
          (λ t. each (Has held) s.blobs has x f.among))

      by_row : (r : Option BlobRow) → blob_numbered s n ≡ r → All (Has (without_removed (option_map (λ blob. blob.digest) r) held)) (filter (is_other n) s.blobs)
      by_row None is = All-filter (is_other n) (Has held) s.blobs has
      by_row (Some blob) is = all (Has (without_bytes blob.digest held)) (filter (is_other n) s.blobs) (others blob is)

  held_by : (k : EntryKind) → IsSound s → (IsTrue (is_some (new_digest s k)) → IsTrue (is_some bytes)) → All (Has (held_after s k bytes held)) (with_blobs s m k).blobs
  held_by (kind.Blob n true) o comes =
      All-map (Has held) (longer_kept (life s) n) s.blobs
      (All-weaker (Has held) (λ x. Has held (longer_kept (life s) n x)) (λ x h. has_renewed held (x.no == n) (x.deadline + life s) x h) s.blobs has)
  held_by (kind.Blob n false) o comes = removed_held n o
  held_by (kind.Update b t try_no chunk last) o comes = chunk_held (fresh_chunk (attempt_of s t) chunk) comes
  held_by (kind.Put digest size) o comes = put_held digest size comes
  held_by entry o comes = has

-- each blob has its bytes after an entry, where they came with one that places a blob
pub keeps_held : (kept : MachineState) (e : Entry) (bytes : Option (List ℕ)) → IsSound kept.pool → AreHeld kept → (IsTrue (is_some (new_digest kept.pool e.kind)) → IsTrue (is_some bytes)) →
    AreHeld (record kept { pool = after kept.pool e; log = kept.log ++ e ∷ []; ready = None; held = held_after kept.pool e.kind bytes kept.held })
keeps_held kept e bytes o held comes = held_by kept.pool e.moment bytes kept.held held e.kind o comes
