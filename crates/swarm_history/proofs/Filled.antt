-- The blobs of a pool have their bytes, and those that an entry leaves have theirs.
use Rattle.std.proofs.Common.{◌≡◌, ℕ, ◌+◌, ◌==◌, Bool, true, false, cond, List, length, get_or, refl, sym, ap, ◌∙◌, subst, Option, Some, None, IsTrue, IfSome, is_some, is_none, filter}
use Rattle.std.specs.Prelude.{IsSomeAnd}
use Rattle.std.specs.List.{All}
use Rattle.std.specs.Option.{option_map, option_map_or, option_and_then}
use Rattle.std.proofs.lemmas.Bool.{cond_both, both_ways, not-true, eqb-true, eq-eqb}
use Rattle.std.proofs.lemmas.Option.{none-some, same_Some}
use Rattle.std.proofs.lemmas.List.Elements.{All-map, All-filter, All-push, All-weaker}
use Rattle.sha2.specs.Sha256.{sha256}
use Rattle.dimensions.specs.Alike.{same}
use Rattle.dimensions.specs.Choosing.{when}
use Rattle.swarm_history.specs.Types.{BlobRow, Done, Differs, Unknown, Chunk, PoolState, Entry, EntryKind}
use Rattle.blob_rows.specs.declared.filled.Filled.{Filled}
use Rattle.blob_rows.specs.BlobRows.{has_digest, is_blob, is_other, renewed, renewed_until, longer_kept, new_blob, place_for}
use Rattle.swarm_model.specs.declared.attempt.Attempt.{Attempt}
use Rattle.swarm_model.specs.declared.entry.EntryKind.TheVariants as kind
use Rattle.swarm_model.specs.Bytes.{HeldBytes, brings, filled, new_digest, with_bytes, without_bytes, with_new, without_removed, held_after}
use Rattle.swarm_model.specs.Effects.{life, blobs_in, put, put_chunk, with_blobs, fresh_chunk, attempt_of, after}
use Rattle.swarm_model.specs.Finding.{blob_of, blob_numbered, has_blob}
use Rattle.swarm_model.specs.MachineState.{MachineState, AreHeld}
use Rattle.swarm_model.specs.Soundness.{IsSound}
use Rattle.pool_laws.proofs.Alike.{same_is, is_same, same_self}
use Rattle.pool_laws.proofs.BlobChanges.{after_place, after_put}
use Rattle.pool_laws.proofs.Lists.{Among, Found, each, all, find_is, find_none, filter_is, found_once}
use Rattle.pool_laws.proofs.Outputs.{fresh_next}
use Rattle.pool_loading.specs.Records.{IsFilled, AreFilled}
use Rattle.swarm_history.specs.Settling.{with_entry}

-- bytes are those of a row's digest and size
abbrev AreOwn : BlobRow → List ℕ → Type 0
AreOwn row bytes = (sha256 bytes ≡ row.digest) × (length bytes ≡ row.size)

abbrev Owns : HeldBytes → BlobRow → Type 0
Owns held row = IsSomeAnd (held row.digest) (AreOwn row)

-- ---- one row

-- bytes are filled where their digest is the one that is named, and its blob has their size
done_where : (named sized : Bool) (actual : List ℕ) → cond named (cond sized Done Unknown) (Differs actual) ≡ Done → (named ≡ true) × (sized ≡ true)
done_where true true actual done = (refl, refl)
done_where true false actual done = absurd (cc (done))
done_where false sized actual done = absurd (cc (done))

module _ (s : PoolState) (sound : IsSound s) (row : BlobRow) (among : Among row s.blobs) where
  found : blob_of s row.digest ≡ Some row
  found = found_once (has_digest row.digest) s.blobs row among (same_self row.digest) (sound.digests row.digest)

  sized : (size : ℕ) → has_blob s row.digest size ≡ (row.size == size)
  sized size = ap (λ (o : Option BlobRow). option_map_or (λ blob. blob.size == size) o false) found

  owns : (o : Option (List ℕ)) → option_map (filled s row.digest) o ≡ Some Done → IsSomeAnd o (AreOwn row)
  owns None is = absurd (none-some Done is)
  owns (Some bytes) is =
      let done = done_where (same (sha256 bytes) row.digest) (has_blob s row.digest (length bytes)) (sha256 bytes) (same_Some (filled s row.digest bytes) Done is) in
      (same_is (sha256 bytes) row.digest done.0, sym (eqb-true row.size (length bytes) (sym (sized (length bytes)) ∙ done.1)))

  fills : (o : Option (List ℕ)) → IsSomeAnd o (AreOwn row) → option_map (filled s row.digest) o ≡ Some Done
  fills None own = absurd own
  fills (Some bytes) own =
      let named : same (sha256 bytes) row.digest ≡ true = is_same (sha256 bytes) row.digest own.0 in
      let right : has_blob s row.digest (length bytes) ≡ true = sized (length bytes) ∙ eq-eqb row.size (length bytes) (sym own.1) in
      ap (λ (t : Bool). Some (cond t (cond (has_blob s row.digest (length bytes)) Done Unknown) (Differs (sha256 bytes)))) named ∙ ap (λ (t : Bool). Some (cond t Done Unknown)) right

-- the bytes of each blob are held
pub filled_held : (kept : MachineState) → AreFilled kept → AreHeld kept
filled_held kept are = λ place row low. let blob : BlobRow = get_or kept.pool.blobs place row in there (filled kept.pool blob.digest) (kept.held blob.digest) (are place row low)
  where
    there : (f : List ℕ → Filled) (o : Option (List ℕ)) → option_map f o ≡ Some Done → is_some o ≡ true
    there f None is = absurd (none-some Done is)
    there f (Some bytes) is = refl

-- ---- an entry

-- other deadlines leave digest and size
owns_renewed : (held : HeldBytes) (t : Bool) (deadline : ℕ) (row : BlobRow) → Owns held row → Owns held (cond t (renewed deadline row) row)
owns_renewed held true deadline row own = own
owns_renewed held false deadline row own = own

module _ (s : PoolState) (m : ℕ) (bytes : Option (List ℕ)) (held : HeldBytes) (own : All (Owns held) s.blobs) where
  -- bytes that came for another digest leave those of the rows
  others_own : (digest b : List ℕ) → blob_of s digest ≡ None → All (Owns (with_bytes digest b held)) s.blobs
  others_own digest b none =
      all (Owns (with_bytes digest b held)) s.blobs
      (λ row a. subst (λ (t : Bool). IsSomeAnd (cond t (Some b) (held row.digest)) (AreOwn row)) (sym (find_none (has_digest digest) s.blobs none row a)) (each (Owns held) s.blobs own row a))

  put_own : (digest : List ℕ) (size : ℕ) → (IsTrue (is_some (when (is_none (blob_of s digest)) digest)) → IsTrue (is_some bytes)) → IfSome bytes (λ b. (digest ≡ sha256 b) × (size ≡ length b))
      → All (Owns (with_new (when (is_none (blob_of s digest)) digest) bytes held)) (put s m digest size).blobs
  put_own digest size comes brought = by_row (blob_of s digest) refl comes
    where
      by_place : (b : List ℕ) → (digest ≡ sha256 b) × (size ≡ length b) → blob_of s digest ≡ None → (o : Option ℕ) → All (Owns (with_bytes digest b held)) (after_place s m digest size o).rows
      by_place b right none None = others_own digest b none
      by_place b right none (Some place) =
          All-push (Owns (with_bytes digest b held)) s.blobs (new_blob (blobs_in s) (m + life s) digest size place) (others_own digest b none)
          (subst (λ (t : Bool). IsSomeAnd (cond t (Some b) (held digest)) (AreOwn (new_blob (blobs_in s) (m + life s) digest size place))) (sym (same_self digest)) (sym right.0, sym right.1))

      by_bytes : (o : Option (List ℕ)) → is_some o ≡ true → IfSome o (λ b. (digest ≡ sha256 b) × (size ≡ length b)) → blob_of s digest ≡ None
          → All (Owns (with_new (Some digest) o held)) (after_place s m digest size (place_for (blobs_in s) size)).rows
      by_bytes None there right none = absurd (cc (there))
      by_bytes (Some b) there right none = by_place b right none (place_for (blobs_in s) size)

      by_row : (o : Option BlobRow) → blob_of s digest ≡ o → (IsTrue (is_some (when (is_none o) digest)) → IsTrue (is_some bytes)) → All (Owns (with_new (when (is_none o) digest) bytes held)) (after_put s m digest size o).rows
      by_row (Some row) is come =
          All-map (Owns held) (renewed_until (m + life s) digest) s.blobs
          (All-weaker (Owns held) (λ x. Owns held (renewed_until (m + life s) digest x)) (λ x h. owns_renewed held (has_digest digest x) (m + life s) x h) s.blobs own)
      by_row None is come = by_bytes bytes (come refl) brought is

  chunk_own : (o : Option Chunk) → (IsTrue (is_some (option_and_then (λ c. when (is_none (blob_of s c.digest)) c.digest) o)) → IsTrue (is_some bytes))
      → ((c : Chunk) → o ≡ Some c → IfSome bytes (λ b. (c.digest ≡ sha256 b) × (c.size ≡ length b)))
      → All (Owns (with_new (option_and_then (λ c. when (is_none (blob_of s c.digest)) c.digest) o) bytes held)) (put_chunk s m o).blobs
  chunk_own None comes brought = own
  chunk_own (Some c) comes brought = put_own c.digest c.size comes (brought c refl)

  -- a removal takes out the bytes of its row alone
  removed_own : (n : ℕ) → IsSound s → All (Owns (without_removed (option_map (λ blob. blob.digest) (blob_numbered s n)) held)) (filter (is_other n) s.blobs)
  removed_own n sound = by_row (blob_numbered s n) refl
    where
      others : (blob : BlobRow) → blob_numbered s n ≡ Some blob → (x : BlobRow) → Among x (filter (is_other n) s.blobs) → Owns (without_bytes blob.digest held) x
      others blob is x a =
          (let f : Found (is_other n) s.blobs x = filter_is (is_other n) s.blobs x a in
          let g : Found (is_blob n) s.blobs blob = find_is (is_blob n) s.blobs blob is in
          cond_both (same x.digest blob.digest) None (held x.digest) (λ (r : Option (List ℕ)). IsSomeAnd r (AreOwn x))
          (λ t. let one : x ≡ blob = same_Some _ _ (sym (found_once (has_digest blob.digest) s.blobs x f.among t (sound.digests blob.digest))
          ∙ found_once (has_digest blob.digest) s.blobs blob g.among (same_self blob.digest) (sound.digests blob.digest)) in
          absurd (both_ways (x.no == n) (not-true (x.no == n) f.passes) (ap (λ (y : BlobRow). y.no == n) one ∙ g.passes)))
          (λ t. each (Owns held) s.blobs own x f.among))

      by_row : (r : Option BlobRow) → blob_numbered s n ≡ r → All (Owns (without_removed (option_map (λ blob. blob.digest) r) held)) (filter (is_other n) s.blobs)
      by_row None is = All-filter (is_other n) (Owns held) s.blobs own
      by_row (Some blob) is = all (Owns (without_bytes blob.digest held)) (filter (is_other n) s.blobs) (others blob is)

  own_by : (k : EntryKind) → IsSound s → (IsTrue (is_some (new_digest s k)) → IsTrue (is_some bytes)) → IfSome bytes (λ b. brings k ≡ Some (sha256 b, length b))
      → All (Owns (held_after s k bytes held)) (with_blobs s m k).blobs
  own_by (kind.Blob n true) sound comes brought =
      All-map (Owns held) (longer_kept (life s) n) s.blobs
      (All-weaker (Owns held) (λ x. Owns held (longer_kept (life s) n x)) (λ x h. owns_renewed held (x.no == n) (x.deadline + life s) x h) s.blobs own)
  own_by (kind.Blob n false) sound comes brought = removed_own n sound
  own_by (kind.Update b t try_no chunk last) sound comes brought =
      chunk_own (fresh_chunk (attempt_of s t) chunk) comes (λ c is. of_chunk bytes brought c (chunk_is (attempt_of s t) c is))
    where
      chunk_is : (o : Option Attempt) (c : Chunk) → fresh_chunk o chunk ≡ Some c → chunk ≡ Some c
      chunk_is None c is = absurd (none-some c is)
      chunk_is (Some attempt) c is = (fresh_next attempt chunk c is).0

      of_chunk : (o : Option (List ℕ)) → IfSome o (λ bytes. brings (kind.Update b t try_no chunk last) ≡ Some (sha256 bytes, length bytes)) → (c : Chunk) → chunk ≡ Some c
          → IfSome o (λ bytes. (c.digest ≡ sha256 bytes) × (c.size ≡ length bytes))
      of_chunk None right c is = tt
      of_chunk (Some bytes) right c is =
          let pair = same_Some (c.digest, c.size) (sha256 bytes, length bytes) (ap (λ (o : Option Chunk). brings (kind.Update b t try_no o last)) (sym is) ∙ right) in
          (ap (λ (p : List ℕ × ℕ). p.0) pair, ap (λ (p : List ℕ × ℕ). p.1) pair)
  own_by (kind.Put digest size) sound comes brought = put_own digest size comes (of_put bytes brought)
    where
      of_put : (o : Option (List ℕ)) → IfSome o (λ bytes. brings (kind.Put digest size) ≡ Some (sha256 bytes, length bytes)) → IfSome o (λ bytes. (digest ≡ sha256 bytes) × (size ≡ length bytes))
      of_put None right = tt
      of_put (Some bytes) right =
          let pair = same_Some (digest, size) (sha256 bytes, length bytes) right in
          (ap (λ (p : List ℕ × ℕ). p.0) pair, ap (λ (p : List ℕ × ℕ). p.1) pair)
  own_by entry sound comes brought = own

-- each blob has its bytes after an entry, where those came with it that it brings
pub keeps_filled : (kept : MachineState) (e : Entry) (bytes : Option (List ℕ)) → IsSound kept.pool → IsSound (after kept.pool e) → AreFilled kept
    → (IsTrue (is_some (new_digest kept.pool e.kind)) → IsTrue (is_some bytes)) → IfSome bytes (λ b. brings e.kind ≡ Some (sha256 b, length b))
    → AreFilled (with_entry kept e bytes)
keeps_filled kept e bytes sound next are comes brought =
    let own : All (Owns kept.held) kept.pool.blobs =
    all (Owns kept.held) kept.pool.blobs (λ row a. owns kept.pool sound row a (kept.held row.digest) (each (IsFilled kept) kept.pool.blobs are row a)) in
    let owned : All (Owns (held_after kept.pool e.kind bytes kept.held)) (with_blobs kept.pool e.moment e.kind).blobs = own_by kept.pool e.moment bytes kept.held own e.kind sound comes brought in
    all (IsFilled (with_entry kept e bytes)) (after kept.pool e).blobs
    (λ row a. fills (after kept.pool e) next row a (held_after kept.pool e.kind bytes kept.held row.digest) (each (Owns (held_after kept.pool e.kind bytes kept.held)) (after kept.pool e).blobs owned row a))
