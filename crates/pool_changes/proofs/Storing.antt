-- What the rows of the blobs tell of the store, and of the bytes that are held in it.
use Rattle.std.proofs.Common.{◌≡◌, ℕ, ◌+◌, ◌≤◌, ◌<◌, Bool, true, false, cond, List, map, length, Option, Some, None, Bor, IfSome, IsTrue, is_some, is_none, refl, sym, ap, ◌∙◌, subst, arith}
use Rattle.std.specs.Prelude.{◌&&◌, ◌==◌, nat_le}
use Rattle.std.specs.List.{count_by}
use Rattle.std.specs.Option.{option_map, option_map_or}
use Rattle.std.proofs.lemmas.Bool.{leb-false}
use Rattle.dimensions.proofs.Counting.{count-map, list_any-map}
use Rattle.dimensions.specs.Choosing.{when}
use Rattle.sha2.specs.Sha256.{sha256}
use Rattle.blob_rows.specs.declared.extent.Extent.{Extent}
use Rattle.blob_rows.specs.Extents.{extent_at}
use Rattle.blob_rows.proofs.SameItems.{list_any-same}
use Rattle.blob_rows.specs.declared.held.Held.{Held}
use Rattle.blob_rows.specs.declared.held.Held.TheVariants.{Placed, Present, NoNames, NoRoom}
use Rattle.blob_rows.specs.declared.filled.Filled.{Filled}
use Rattle.blob_rows.specs.declared.filled.Filled.TheVariants.{Done, Differs, Unknown}
use Rattle.blob_rows.specs.BlobRows.{units_of, BlobRowsState, has_digest, blob_of, blob_numbered, place_for, put_result, Stored, stored_row}
use Rattle.blob_rows.specs.Digests.{same_digest}
use Rattle.blob_rows.proofs.Texts.{same_text}
use Rattle.blob_rows.specs.declared.blob_row.BlobRow.{BlobRow}
use Rattle.content_store.specs.Contents.{Content, is_named, is_held_with_size, content_of, bytes_of, with_content, unfilled_content, filled_with}
use Rattle.content_store.specs.Plain.{ContentStoreState, hold_result, held_after_hold, fill_result, held_after_fill}
use Rattle.content_store.proofs.Telling.{told_done}
use Rattle.content_store.specs.StoredRows.{BlobsState, stored_content, AreStored, rows_beside, rows_in, held_without}
use Rattle.content_store.proofs.Tied.{held_is}
use Rattle.content_store.proofs.Puts.{hold_result-is}
use Rattle.swarm_model.specs.Blobs.{is_taken}
use Rattle.swarm_model.specs.declared.pool_state.PoolState.{PoolState}
use Rattle.swarm_model.specs.Finding.{has_blob}
use Rattle.swarm_model.specs.Bytes.{HeldBytes, with_bytes, without_bytes, with_new, without_removed, filled, held_after_fill as bytes_after_fill}
use Rattle.pool_changes.specs.Blobs.{held_in, with_filled, AreBytesOf}
use Rattle.pool_changes.proofs.Contents.{find_both, find-new, bytes_new, bytes_gone, bytes_filled}

-- two ways to tell what is held are one where they tell the same of each digest
held_by : (a b : HeldBytes) → ((digest : List ℕ) → a digest ≡ b digest) → a ≡ b
held_by a b same = λ i digest. same digest i

some_of : (o : Option Content) → (test : Content → Bool) → option_map_or test o false ≡ true → (c : Content) × (o ≡ Some c)
some_of None test is = absurd (cc (is))
some_of (Some c) test is = (c, refl)

-- bytes that are brought are held where they are those of a name and of its size
filled_bytes : (held : List Content) (digest bytes : List ℕ) (f : Filled) → f ≡ fill_result held digest bytes → (other : List ℕ) →
    bytes_of (held_after_fill f digest bytes held) other ≡ bytes_after_fill f digest bytes (bytes_of held) other
filled_bytes held digest bytes Unknown is other = refl
filled_bytes held digest bytes (Differs actual) is other = refl
filled_bytes held digest bytes Done is other = by_name (same_digest (sha256 bytes) digest) is
  where
    sized : (t : Bool) → is_held_with_size held digest (length bytes) ≡ t → Done ≡ cond t Done Unknown → (c : Content) × (content_of held digest ≡ Some c)
    sized true s e = some_of (content_of held digest) (λ c. c.size == length bytes) s
    sized false s e = absurd (cc (e))

    by_name : (t : Bool) → Done ≡ cond t (cond (is_held_with_size held digest (length bytes)) Done Unknown) (Differs (sha256 bytes)) →
        bytes_of (map (filled_with digest bytes) held) other ≡ with_bytes digest bytes (bytes_of held) other
    by_name true e = (let there = sized (is_held_with_size held digest (length bytes)) refl e in bytes_filled held digest bytes there.0 there.1 other)
    by_name false e = absurd (cc (e))

pub held_filled : (held : List Content) (digest bytes : List ℕ) (f : Filled) → f ≡ fill_result held digest bytes → bytes_of (held_after_fill f digest bytes held) ≡ bytes_after_fill f digest bytes (bytes_of held)
held_filled held digest bytes f is = held_by (bytes_of (held_after_fill f digest bytes held)) (bytes_after_fill f digest bytes (bytes_of held)) (filled_bytes held digest bytes f is)

module _ (rows : List BlobRow) (placed : ℕ) (held : List Content) (stored : AreStored rows placed held) where
  -- a digest is held with a size where a row has it with that size
  pub sized_is : (digest : List ℕ) (size : ℕ) → is_held_with_size held digest size ≡ option_map_or (λ row. row.size == size) (blob_of rows digest) false
  sized_is digest size =
      find_both (is_named digest) (λ (c : Content). c.size == size) held few_held
      ∙ sym (list_any-map test stored_content held)
      ∙ sym (list_any-same test (map stored_row rows) (map stored_content held) stored.same)
      ∙ list_any-map test stored_row rows
      ∙ sym (find_both (has_digest digest) (λ (row : BlobRow). row.size == size) rows (stored.digests digest))
    where
      names : Stored → Bool
      names s = same_digest s.digest digest

      test : Stored → Bool
      test s = names s && s.size == size

      few_held : count_by (is_named digest) held ≤ 1
      few_held = omega (arith, count-map names stored_content held, count-map names stored_row rows, stored.same names, stored.digests digest)

-- ---- a put

module _ (rows : List BlobRow) (placed : ℕ) (store : ContentStoreState) (digest : List ℕ) (size : ℕ) where
  abbrev before : BlobRowsState
  before = rows_beside rows placed store

  abbrev by_room : Bool → Option ℕ → Held
  by_room full o = cond full NoNames (option_map_or (λ at. Placed (extent_at (units_of size) at)) o NoRoom)

  abbrev IsPlaced : Held → Type 0
  IsPlaced told = (extent : Extent) × (told ≡ Placed extent)

  placed_by : (full : Bool) (o : Option ℕ) → is_taken (by_room full o) ≡ true → (full ≡ false) × IsPlaced (by_room full o)
  placed_by true o taken = absurd (cc (taken))
  placed_by false None taken = absurd (cc (taken))
  placed_by false (Some at) taken = (refl, (extent_at (units_of size) at, refl))

  module _ (taken : is_taken (put_result store.names before digest size) ≡ true) (absent : blob_of rows digest ≡ None) where
    told_is : put_result store.names before digest size ≡ by_room (nat_le store.names (length rows)) (place_for before size)
    told_is = ap (λ (o : Option BlobRow). cond (is_some o) Present (by_room (nat_le store.names (length rows)) (place_for before size))) absent

    room : (nat_le store.names (length rows) ≡ false) × IsPlaced (by_room (nat_le store.names (length rows)) (place_for before size))
    room = placed_by (nat_le store.names (length rows)) (place_for before size) (subst (λ (h : Held). is_taken h ≡ true) told_is taken)

    -- there is a name for it
    pub few : length rows < store.names
    few = leb-false store.names (length rows) room.0

    module _ (stored : AreStored rows placed store.held) where
      abbrev told : Held
      told = hold_result store digest size

      abbrev held_after : List Content
      held_after = held_after_hold told digest size (placed + 1) store.held

      abbrev extent : Extent
      extent = room.1.0

      abbrev fresh : Content
      fresh = unfilled_content digest size (placed + 1) extent

      is_placed : told ≡ Placed extent
      is_placed = hold_result-is rows placed store stored digest size ∙ told_is ∙ room.1.1

      no_content : (o : Option Content) → is_some o ≡ false → o ≡ None
      no_content None none = refl
      no_content (Some c) none = absurd (cc (none))

      not_held : content_of store.held digest ≡ None
      not_held = no_content (content_of store.held digest) (held_is rows placed store.held stored digest ∙ ap (λ (o : Option BlobRow). is_some o) absent)

      after_is : held_after ≡ with_content fresh store.held
      after_is = ap (λ (h : Held). held_after_hold h digest size (placed + 1) store.held) is_placed

      same_after : (other : List ℕ) → bytes_of held_after other ≡ bytes_of store.held other
      same_after other = ap (λ (held : List Content). bytes_of held other) after_is ∙ bytes_new fresh store.held refl not_held other

      there : content_of held_after digest ≡ Some fresh
      there = ap (λ (held : List Content). content_of held digest) after_is ∙ find-new (is_named digest) fresh store.held (same_text digest digest refl) not_held

      -- its bytes are held where they come, and no others change
      pub holds_new : (bytes : Option (List ℕ)) → AreBytesOf digest size bytes → (blobs : BlobsState) → blobs.store.held ≡ held_after → (other : List ℕ) →
          held_in (with_filled digest bytes blobs) other ≡ with_new (Some digest) bytes (bytes_of store.held) other
      holds_new None own blobs is other = ap (λ (held : List Content). bytes_of held other) is ∙ same_after other
      holds_new (Some bytes) own blobs is other =
          let found : content_of blobs.store.held digest ≡ Some fresh = ap (λ (held : List Content). content_of held digest) is ∙ there in
          let done : Done ≡ fill_result blobs.store.held digest bytes = told_done blobs.store.held digest bytes (same_text (sha256 bytes) digest own.0) fresh found (sym own.1) in
          ap (λ (f : Filled). bytes_of (held_after_fill f digest bytes blobs.store.held) other) (sym done)
          ∙ bytes_filled blobs.store.held digest bytes fresh found other
          ∙ ap (λ (o : Option (List ℕ)). cond (same_digest other digest) (Some bytes) o) (ap (λ (held : List Content). bytes_of held other) is ∙ same_after other)

  -- a blob that is present keeps its bytes
  pub holds_same : AreStored rows placed store.held → is_some (blob_of rows digest) ≡ true → held_after_hold (hold_result store digest size) digest size (placed + 1) store.held ≡ store.held
  holds_same stored there =
      ap (λ (h : Held). held_after_hold h digest size (placed + 1) store.held)
      (hold_result-is rows placed store stored digest size ∙ ap (λ (t : Bool). cond t Present (by_room (nat_le store.names (length rows)) (place_for before size))) there)

-- ---- the bytes that are held after a change of the blobs

abbrev put_store : ContentStoreState → List ℕ → ℕ → ℕ → ContentStoreState
put_store store digest size number = record store { held = held_after_hold (hold_result store digest size) digest size number store.held }

-- a blob that was not present is put, and its bytes come
pub held_put_new : (old new filled : BlobsState) (digest : List ℕ) (size : ℕ) (bytes : Option (List ℕ)) → AreStored old.rows old.placed old.store.held →
    is_taken (put_result old.store.names (rows_in old) digest size) ≡ true → AreBytesOf digest size bytes → new.store ≡ put_store old.store digest size (old.placed + 1) → filled ≡ with_filled digest bytes new →
    blob_of old.rows digest ≡ None → held_in filled ≡ with_new (when (is_none (blob_of old.rows digest)) digest) bytes (held_in old)
held_put_new old new filled digest size bytes stored taken own is comes absent =
    held_by (held_in filled) (with_new (Some digest) bytes (held_in old)) (λ other.
    ap (λ (blobs : BlobsState). held_in blobs other) comes
    ∙ holds_new old.rows old.placed old.store digest size taken absent stored bytes own new (ap (λ (store : ContentStoreState). store.held) is) other)
    ∙ ap (λ (o : Option BlobRow). with_new (when (is_none o) digest) bytes (held_in old)) (sym absent)

-- one that was present is put
pub held_put_same : (old new : BlobsState) (digest : List ℕ) (size : ℕ) (bytes : Option (List ℕ)) → AreStored old.rows old.placed old.store.held →
    new.store ≡ put_store old.store digest size (old.placed + 1) → is_some (blob_of old.rows digest) ≡ true → held_in new ≡ with_new (when (is_none (blob_of old.rows digest)) digest) bytes (held_in old)
held_put_same old new digest size bytes stored is there =
    ap bytes_of (ap (λ (store : ContentStoreState). store.held) is ∙ holds_same old.rows old.placed old.store digest size stored there)
    ∙ by_row (blob_of old.rows digest) there
  where
    by_row : (o : Option BlobRow) → is_some o ≡ true → held_in old ≡ with_new (when (is_none o) digest) bytes (held_in old)
    by_row None there = absurd (cc (there))
    by_row (Some row) there = refl

-- one is removed
pub held_removed : (old new : BlobsState) (number : ℕ) → new.store ≡ record old.store { held = held_without (blob_numbered old.rows number) old.store.held } →
    held_in new ≡ without_removed (option_map (λ (row : BlobRow). row.digest) (blob_numbered old.rows number)) (held_in old)
held_removed old new number is = ap bytes_of (ap (λ (store : ContentStoreState). store.held) is) ∙ by_row (blob_numbered old.rows number)
  where
    by_row : (o : Option BlobRow) → bytes_of (held_without o old.store.held) ≡ without_removed (option_map (λ (row : BlobRow). row.digest) o) (held_in old)
    by_row None = refl
    by_row (Some row) = held_by (bytes_of (held_without (Some row) old.store.held)) (without_bytes row.digest (held_in old)) (bytes_gone old.store.held row.digest)

-- ---- what the rows of a pool tell of bytes

module _ (blobs : BlobsState) (stored : AreStored blobs.rows blobs.placed blobs.store.held) (s : PoolState) (rows : s.blobs ≡ blobs.rows) (digest : List ℕ) where
  has_size : (size : ℕ) → is_held_with_size blobs.store.held digest size ≡ has_blob s digest size
  has_size size =
      sized_is blobs.rows blobs.placed blobs.store.held stored digest size
      ∙ ap (λ (list : List BlobRow). option_map_or (λ (row : BlobRow). row.size == size) (blob_of list digest) false) (sym rows)

  -- what becomes of bytes that are brought
  pub filled_is : (bytes : List ℕ) → fill_result blobs.store.held digest bytes ≡ filled s digest bytes
  filled_is bytes = ap (λ (t : Bool). cond (same_digest (sha256 bytes) digest) (cond t Done Unknown) (Differs (sha256 bytes))) (has_size (length bytes))

  -- the size of those that are lent
  pub lent_size : (bytes : Option (Bor (List ℕ))) → IfSome bytes (λ b. IsTrue (is_held_with_size blobs.store.held digest (length b.now))) → IfSome bytes (λ b. IsTrue (has_blob s digest (length b.now)))
  lent_size None sized = tt
  lent_size (Some b) sized = sym (has_size (length b.now)) ∙ sized
