-- What an entry does to the blobs, case by case.
use Rattle.std.proofs.Common.{◌≡◌, ℕ, ◌+◌, ◌<◌, ◌≤◌, not, Bool, true, false, cond, List, [], ◌∷◌, ◌++◌, map, length, refl, sym, ap, ◌∙◌, subst, arith, Option, Some, None, is_some, filter}
use Rattle.std.specs.Prelude.{nat_le}
use Rattle.std.specs.Option.{option_map_or, option_and_then}
use Rattle.std.proofs.lemmas.Bool.{leb-true, leb-false}
use Rattle.dimensions.specs.Choosing.{when}
use Rattle.blob_rows.specs.Extents.{extent_at}
use Rattle.blob_rows.specs.declared.held.Held.{Held}
use Rattle.blob_rows.specs.declared.held.Held.TheVariants.{Placed, Present, NoNames, NoRoom}
use Rattle.blob_rows.specs.BlobRows.{units_of, BlobRowsState, renewed_until, longer_kept, is_other, new_blob, place_for}
use Rattle.pool_laws.specs.Types.{BlobRow, Chunk, Attempt, Last, TaskRow, PoolState, EntryKind}
use Rattle.swarm_model.specs.declared.entry.EntryKind.TheVariants as kind
use Rattle.swarm_model.specs.Blobs.{most_blobs, is_taken, can_take}
use Rattle.swarm_model.specs.Answers.{unplaced_chunk}
use Rattle.swarm_model.specs.Effects.{life, blobs_in, with_rows, put, put_chunk, with_blobs, fresh_chunk, attempt_of}
use Rattle.swarm_model.specs.Finding.{blob_of}
use Rattle.swarm_model.specs.Fits.{fits_chunk}
use Rattle.pool_laws.proofs.Preconditions.{Finds, FindsUpdate}
use Rattle.pool_laws.proofs.EntryPreconditions.{IsFitting}
use Rattle.pool_laws.proofs.Outputs.{fit_chunk, fresh_next}

-- a blob that is not present has a place
pub record HasPlace (s : PoolState) (digest : List ℕ) (size place : ℕ) : Type 0 where
  pub absent : blob_of s digest ≡ None
  pub few : length s.blobs < most_blobs
  pub found : place_for (blobs_in s) size ≡ Some place
  pub short : size ≤ 16777216

-- the rows after a put, by what is there and by the place
module _ (s : PoolState) (m : ℕ) (digest : List ℕ) (size : ℕ) where
  abbrev pub placed_at : ℕ → BlobRowsState
  placed_at place = record (blobs_in s) { rows = s.blobs ++ new_blob (blobs_in s) (m + life s) digest size place ∷ []; placed = s.placed + 1 }

  abbrev pub after_place : Option ℕ → BlobRowsState
  after_place o = option_map_or placed_at o (blobs_in s)

  abbrev pub after_put : Option BlobRow → BlobRowsState
  after_put o = option_map_or (λ row. let r : BlobRowsState = record (blobs_in s) { rows = map (renewed_until (m + life s) digest) s.blobs } in r) o (after_place (place_for (blobs_in s) size))

-- a fact on the rows, and on how many blobs were placed, after each step that an entry can be
pub record BlobSteps (P : List BlobRow → ℕ → Type 0) (s : PoolState) (m : ℕ) (k : EntryKind) : Type 0 where
  pub same : P s.blobs s.placed
  pub renews : (digest : List ℕ) → P (map (renewed_until (m + life s) digest) s.blobs) s.placed
  pub keeps : (n : ℕ) → k ≡ kind.Blob n true → P (map (longer_kept (life s) n) s.blobs) s.placed
  pub removes : (n : ℕ) → k ≡ kind.Blob n false → P (filter (is_other n) s.blobs) s.placed
  pub places : (digest : List ℕ) (size place : ℕ) → HasPlace s digest size place → P (s.blobs ++ new_blob (blobs_in s) (m + life s) digest size place ∷ []) (s.placed + 1)

-- what becomes of a blob, by its place
abbrev by_place : ℕ → Option ℕ → Held
by_place size o = option_map_or (λ at. Placed (extent_at (units_of size) at)) o NoRoom

-- a blob that is taken and not present has a place
pub has_place : (s : PoolState) (digest : List ℕ) (size : ℕ) → can_take s digest size ≡ true → blob_of s digest ≡ None → (length s.blobs < most_blobs) × (place : ℕ) × (place_for (blobs_in s) size ≡ Some place)
has_place s digest size taken absent =
    by_room (nat_le most_blobs (length s.blobs)) refl (place_for (blobs_in s) size) refl
    (subst (λ (o : Option BlobRow). is_taken (cond (is_some o) Present (cond (nat_le most_blobs (length s.blobs)) NoNames (by_place size (place_for (blobs_in s) size)))) ≡ true) absent taken)
  where
    by_room : (full : Bool) → nat_le most_blobs (length s.blobs) ≡ full → (o : Option ℕ) → place_for (blobs_in s) size ≡ o → is_taken (cond full NoNames (by_place size o)) ≡ true →
        (length s.blobs < most_blobs) × (place : ℕ) × (place_for (blobs_in s) size ≡ Some place)
    by_room true e o found t = absurd (cc (t))
    by_room false e None found t = absurd (cc (t))
    by_room false e (Some place) found t = (leb-false most_blobs (length s.blobs) e, place, found)

module _ (P : List BlobRow → ℕ → Type 0) (s : PoolState) (m : ℕ) (k : EntryKind) (p : BlobSteps P s m k) where
  abbrev Of : PoolState → Type 0
  Of t = P t.blobs t.placed

  -- a put
  put_by : (digest : List ℕ) (size : ℕ) → can_take s digest size ≡ true → size ≤ 16777216 → Of (put s m digest size)
  put_by digest size taken short = by_row (blob_of s digest) refl
    where
      by_row : (o : Option BlobRow) → blob_of s digest ≡ o → Of (with_rows (after_put s m digest size o) s)
      by_row (Some row) is = p.renews digest
      by_row None is =
          (let room = has_place s digest size taken is in
          subst (λ (o : Option ℕ). Of (with_rows (after_place s m digest size o) s)) (sym room.2)
          (p.places digest size room.1 (record { absent = is; few = room.0; found = room.2; short = short })))

  -- a chunk that is fresh
  chunk_by : (o : Option Chunk) → ((c : Chunk) → o ≡ Some c → (can_take s c.digest c.size ≡ true) × (c.size ≤ 16777216)) → Of (put_chunk s m o)
  chunk_by None takes = p.same
  chunk_by (Some c) takes = let t = takes c refl in put_by c.digest c.size t.0 t.1

-- the run of a report is found by the task's number
pub update_attempt : (s : PoolState) (b t : ℕ) (chunk : Option Chunk) (last : Option Last) → (f : FindsUpdate s b t chunk last) → attempt_of s t ≡ Some f.attempt
update_attempt s b t chunk last f = ap (option_and_then (λ (task : TaskRow). task.attempt)) f.there ∙ f.attempted

-- the chunk of a report has a place where it is fresh
pub update_takes : (s : PoolState) (b t : ℕ) (chunk : Option Chunk) (last : Option Last) → FindsUpdate s b t chunk last → (c : Chunk) → fresh_chunk (attempt_of s t) chunk ≡ Some c →
    (can_take s c.digest c.size ≡ true) × (c.size ≤ 16777216)
update_takes s b t chunk last f c is =
    let fresh : fresh_chunk (Some f.attempt) chunk ≡ Some c = ap (λ (o : Option Attempt). fresh_chunk o chunk) (sym (update_attempt s b t chunk last f)) ∙ is in
    let small = (fit_chunk c (subst (λ (x : Option Chunk). option_map_or fits_chunk x true ≡ true) (fresh_next f.attempt chunk c fresh).0 f.fits)).size in
    (taken (can_take s c.digest c.size) (ap (unplaced_chunk s) (sym fresh) ∙ f.has_place), omega (arith, small))
  where
    taken : (t : Bool) → when (not t) c ≡ None → t ≡ true
    taken true none = refl
    taken false none = absurd (cc (none))

-- what holds after each step holds after the entry
pub blobs_by : (P : List BlobRow → ℕ → Type 0) (s : PoolState) (m : ℕ) (k : EntryKind) → Finds s k → IsFitting s k → BlobSteps P s m k → P (with_blobs s m k).blobs (with_blobs s m k).placed
blobs_by P s m (kind.Blob n true) f g p = p.keeps n refl
blobs_by P s m (kind.Blob n false) f g p = p.removes n refl
blobs_by P s m (kind.Update b t try_no chunk last) f g p =
    chunk_by P s m (kind.Update b t try_no chunk last) p (fresh_chunk (attempt_of s t) chunk) (update_takes s b t chunk last f)
blobs_by P s m (kind.Put digest size) f g p = put_by P s m (kind.Put digest size) p digest size f (leb-true size 16777216 g)
blobs_by P s m entry f g p = p.same
