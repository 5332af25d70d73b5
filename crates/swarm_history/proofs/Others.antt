-- The blobs that are kept beside those of a pool: an entry adds none.
use Rattle.std.proofs.Common.{◌≡◌, ◌++◌, ℕ, ◌+◌, ◌==◌, not, Bool, true, false, cond, List, [], ◌∷◌, map, filter, Option, None, Some, IsTrue, is_some, is_none, refl, ap, sym, subst, ◌∙◌}
use Rattle.std.specs.List.{All, find}
use Rattle.std.specs.Option.{option_map, option_and_then}
use Rattle.std.proofs.lemmas.Bool.{not-true, false≢true, true≢false}
use Rattle.std.proofs.lemmas.List.Sums.{fold-append}
use Rattle.std.proofs.lemmas.List.Elements.{All-push, All-filter, All-weaker}
use Rattle.dimensions.specs.Alike.{same}
use Rattle.dimensions.specs.Choosing.{when}
use Rattle.swarm_history.specs.Types.{BlobRow, Chunk, Entry, EntryKind, PoolState}
use Rattle.blob_rows.specs.BlobRows.{has_digest, is_blob, is_other as is_other_row, renewed, new_blob, place_for}
use Rattle.swarm_keeper.specs.Tables.{Tables, is_other, without, with_blob, appended}
use Rattle.pool_laws.proofs.Alike.{same_is, is_same, same_self}
use Rattle.pool_laws.proofs.BlobChanges.{after_place, after_put, has_place, update_takes}
use Rattle.pool_laws.proofs.EntryPreconditions.{finds}
use Rattle.pool_laws.proofs.Lists.{Among, here, Found, each, all, among_left, among_right, among_map, find_is, find_none, filter_is, filter_has, found_once}
use Rattle.pool_laws.proofs.Preconditions.{Finds}
use Rattle.swarm_model.specs.declared.entry.EntryKind.TheVariants as kind
use Rattle.swarm_model.specs.Bytes.{new_digest, removed_digest}
use Rattle.swarm_model.specs.Effects.{life, blobs_in, put, put_chunk, with_blobs, fresh_chunk, attempt_of, after}
use Rattle.swarm_model.specs.Finding.{blob_of, blob_numbered}
use Rattle.swarm_model.specs.History.{MayFollow, replay}
use Rattle.swarm_model.specs.MachineState.{MachineState, IsHistory}
use Rattle.swarm_model.specs.Soundness.{IsSound}
use Rattle.swarm_history.specs.Records.{KeepsEntry, HoldsNoOthers}

-- a row has the digest
abbrev Has : List BlobRow → List ℕ → Type 0
Has rows digest = IsTrue (is_some (find (has_digest digest) rows))

-- blobs as they are kept
abbrev Blobs : Type 0
Blobs = List (List ℕ × List ℕ)

-- each of them is of one of the rows
abbrev AreOf : List BlobRow → Blobs → Type 0
AreOf rows blobs = All (λ blob. Has rows blob.0) blobs

-- where a row has the digest, it is found
found_some : (digest : List ℕ) (rows : List BlobRow) (row : BlobRow) → Among row rows → has_digest digest row ≡ true → Has rows digest
found_some digest rows row a t = by_found (find (has_digest digest) rows) refl
  where
    by_found : (r : Option BlobRow) → find (has_digest digest) rows ≡ r → is_some r ≡ true
    by_found None g = absurd (cc (find_none (has_digest digest) rows g row a, t))
    by_found (Some y) g = refl

-- a digest of which each row stands among others is one of theirs
still_has : (digest : List ℕ) (rows others : List BlobRow) → ((row : BlobRow) → Among row rows → has_digest digest row ≡ true → Has others digest) → Has rows digest → Has others digest
still_has digest rows others goes_on has = by_found (find (has_digest digest) rows) refl has
  where
    by_found : (r : Option BlobRow) → find (has_digest digest) rows ≡ r → is_some r ≡ true → Has others digest
    by_found None g there = absurd (false≢true there)
    by_found (Some row) g there = let f : Found (has_digest digest) rows row = find_is (has_digest digest) rows row g in goes_on row f.among f.passes

-- ---- deadlines

renewed_has : (digest : List ℕ) (t : Bool) (deadline : ℕ) (row : BlobRow) → has_digest digest row ≡ true → has_digest digest (cond t (renewed deadline row) row) ≡ true
renewed_has digest true deadline row h = h
renewed_has digest false deadline row h = h

has_renewed : (digest : List ℕ) (test : BlobRow → Bool) (deadline : BlobRow → ℕ) (rows : List BlobRow) → Has rows digest
    → Has (map (λ row. cond (test row) (renewed (deadline row) row) row) rows) digest
has_renewed digest test deadline rows =
    still_has digest rows (map (λ row. cond (test row) (renewed (deadline row) row) row) rows)
    (λ row a t. found_some digest (map (λ row. cond (test row) (renewed (deadline row) row) row) rows) (cond (test row) (renewed (deadline row) row) row)
    (among_map (λ row. cond (test row) (renewed (deadline row) row) row) rows row a) (renewed_has digest (test row) (deadline row) row t))

are_renewed : (test : BlobRow → Bool) (deadline : BlobRow → ℕ) (rows : List BlobRow) (blobs : Blobs) → AreOf rows blobs
    → AreOf (map (λ row. cond (test row) (renewed (deadline row) row) row) rows) blobs
are_renewed test deadline rows blobs =
    All-weaker (λ blob. Has rows blob.0) (λ blob. Has (map (λ row. cond (test row) (renewed (deadline row) row) row) rows) blob.0)
    (λ blob h. has_renewed blob.0 test deadline rows h) blobs

-- ---- a put

has_more : (digest : List ℕ) (rows : List BlobRow) (new : BlobRow) → Has rows digest → Has (rows ++ new ∷ []) digest
has_more digest rows new = still_has digest rows (rows ++ new ∷ []) (λ row a t. found_some digest (rows ++ new ∷ []) row (among_left row rows (new ∷ []) a) t)

has_last : (rows : List BlobRow) (new : BlobRow) → Has (rows ++ new ∷ []) new.digest
has_last rows new = found_some new.digest (rows ++ new ∷ []) new (among_right new rows (new ∷ []) here) (same_self new.digest)

are_more : (rows : List BlobRow) (new : BlobRow) (bytes : List ℕ) (blobs : Blobs) → AreOf rows blobs
    → AreOf (rows ++ new ∷ []) (filter (is_other new.digest) blobs ++ (new.digest, bytes) ∷ [])
are_more rows new bytes blobs are =
    All-push (λ blob. Has (rows ++ new ∷ []) blob.0) (filter (is_other new.digest) blobs) (new.digest, bytes)
    (All-filter (is_other new.digest) (λ blob. Has (rows ++ new ∷ []) blob.0) blobs
    (All-weaker (λ blob. Has rows blob.0) (λ blob. Has (rows ++ new ∷ []) blob.0) (λ blob h. has_more blob.0 rows new h) blobs are))
    (has_last rows new)

-- ---- a removal

-- a blob of another number has no digest of the row that is removed
module _ (s : PoolState) (n : ℕ) (o : IsSound s) where
  has_others : (row : BlobRow) → blob_numbered s n ≡ Some row → (digest : List ℕ) → same digest row.digest ≡ false → Has s.blobs digest → Has (filter (is_other_row n) s.blobs) digest
  has_others row is digest differs =
      still_has digest s.blobs (filter (is_other_row n) s.blobs) (λ x a t. by_number x a t (x.no == n) refl)
    where
      by_number : (x : BlobRow) → Among x s.blobs → has_digest digest x ≡ true → (b : Bool) → (x.no == n) ≡ b → Has (filter (is_other_row n) s.blobs) digest
      by_number x a t false e = found_some digest (filter (is_other_row n) s.blobs) x (filter_has (is_other_row n) s.blobs x a (ap not e)) t
      by_number x a t true e =
          (let one : x ≡ row = by_some (sym (found_once (is_blob n) s.blobs x a e (o.numbers n)) ∙ is) in
          let alike : digest ≡ row.digest = sym (same_is x.digest digest t) ∙ ap (λ (y : BlobRow). y.digest) one in
          absurd (true≢false (sym (is_same digest row.digest alike) ∙ differs)))
        where
          by_some : {x y : BlobRow} → Some x ≡ Some y → x ≡ y
          by_some e = cc (e)

  are_others : (r : Option BlobRow) → blob_numbered s n ≡ r → (blobs : Blobs) → AreOf s.blobs blobs
      → AreOf (filter (is_other_row n) s.blobs) (without (option_map (λ blob. blob.digest) r) blobs)
  are_others None is blobs are =
      All-weaker (λ blob. Has s.blobs blob.0) (λ blob. Has (filter (is_other_row n) s.blobs) blob.0)
      (λ blob. still_has blob.0 s.blobs (filter (is_other_row n) s.blobs)
      (λ x a t. found_some blob.0 (filter (is_other_row n) s.blobs) x (filter_has (is_other_row n) s.blobs x a (ap not (find_none (is_blob n) s.blobs is x a))) t))
      blobs are
  are_others (Some row) is blobs are =
      all (λ blob. Has (filter (is_other_row n) s.blobs) blob.0) (filter (is_other row.digest) blobs)
      (λ blob a. let f : Found (is_other row.digest) blobs blob = filter_is (is_other row.digest) blobs blob a in
      has_others row is blob.0 (not-true (same blob.0 row.digest) f.passes) (each (λ blob. Has s.blobs blob.0) blobs are blob f.among))

-- ---- an entry

module _ (s : PoolState) (m : ℕ) (bytes : List ℕ) (blobs : Blobs) (are : AreOf s.blobs blobs) where
  put_others : (digest : List ℕ) (size : ℕ) → ((o : Option BlobRow) → blob_of s digest ≡ o → o ≡ None → (place : ℕ) × (place_for (blobs_in s) size ≡ Some place))
      → AreOf (put s m digest size).blobs (with_blob (when (is_none (blob_of s digest)) digest) bytes blobs)
  put_others digest size room = by_row (blob_of s digest) refl
    where
      by_row : (o : Option BlobRow) → blob_of s digest ≡ o → AreOf (after_put s m digest size o).rows (with_blob (when (is_none o) digest) bytes blobs)
      by_row (Some row) is = are_renewed (has_digest digest) (λ row. m + life s) s.blobs blobs are
      by_row None is =
          (let place = room None is refl in
          subst (λ (o : Option ℕ). AreOf (after_place s m digest size o).rows (filter (is_other digest) blobs ++ (digest, bytes) ∷ [])) (sym place.1)
          (are_more s.blobs (new_blob (blobs_in s) (m + life s) digest size place.0) bytes blobs are))

  chunk_others : (o : Option Chunk)
      → ((c : Chunk) → o ≡ Some c → blob_of s c.digest ≡ None → (place : ℕ) × (place_for (blobs_in s) c.size ≡ Some place))
      → AreOf (put_chunk s m o).blobs (with_blob (option_and_then (λ c. when (is_none (blob_of s c.digest)) c.digest) o) bytes blobs)
  chunk_others None room = are
  chunk_others (Some c) room = put_others c.digest c.size (λ r is none. room c refl (is ∙ none))

  others_by : (k : EntryKind) → IsSound s → Finds s k → AreOf (with_blobs s m k).blobs (with_blob (new_digest s k) bytes (without (removed_digest s k) blobs))
  others_by (kind.Blob n true) o f = are_renewed (is_blob n) (λ row. row.deadline + life s) s.blobs blobs are
  others_by (kind.Blob n false) o f = are_others s n o (blob_numbered s n) refl blobs are
  others_by (kind.Update b t try_no chunk last) o f =
      chunk_others (fresh_chunk (attempt_of s t) chunk) (λ c is none. let room = has_place s c.digest c.size (update_takes s b t chunk last f c is).0 none in (room.1, room.2))
  others_by (kind.Put digest size) o f = put_others digest size (λ r is none. let room = has_place s digest size f (is ∙ none) in (room.1, room.2))
  others_by entry o f = are

-- the pool after one entry more
replay_push : (start : PoolState) (log : List Entry) (entry : Entry) → replay start (log ++ entry ∷ []) ≡ after (replay start log) entry
replay_push start log entry = fold-append after start log (entry ∷ [])

-- what is kept with an entry is of a blob that the log leaves with it
pub keeps_no_others : (kept new : MachineState) (entry : Entry) (bytes : Option (List ℕ)) (old_told new_told : Option Tables)
    → IsHistory kept → IsSound kept.pool → MayFollow kept.pool entry → new.log ≡ kept.log ++ entry ∷ [] → new.start ≡ kept.start
    → KeepsEntry kept entry bytes old_told new_told → HoldsNoOthers old_told kept → HoldsNoOthers new_told new
keeps_no_others kept new entry bytes None new_told history sound follows log start keeps none = subst (λ (t : Option Tables). HoldsNoOthers t new) (sym keeps) tt
keeps_no_others kept new entry bytes (Some t) new_told history sound follows log start keeps none =
    let pool : replay new.start.rows new.log ≡ after kept.pool entry = rw (log, start) (replay_push kept.start.rows kept.log entry ∙ ap (λ s. after s entry) (sym history.replayed)) in
    subst (λ (told : Option Tables). HoldsNoOthers told new) (sym keeps.tables)
    (subst (λ (s : PoolState). AreOf s.blobs (appended keeps.line (new_digest kept.pool entry.kind) keeps.content (removed_digest kept.pool entry.kind) t).blobs) (sym pool)
    (others_by kept.pool entry.moment keeps.content t.blobs (subst (λ (s : PoolState). AreOf s.blobs t.blobs) (sym history.replayed) none) entry.kind sound (finds kept.pool entry follows)))
