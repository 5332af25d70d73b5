-- What a put does, told by the rows and by the store.
use Rattle.std.proofs.Common.{◌≡◌, ℕ, ◌+◌, ◌<◌, Bool, true, false, cond, List, [], ◌∷◌, ◌++◌, length, map, Option, Some, None, Bor, is_some, refl, sym, ap, ◌∙◌, leb}
use Rattle.std.specs.Option.{option_map_or, option_copied}
use Rattle.std.proofs.lemmas.Bool.{lt-leb}
use Rattle.blob_rows.specs.declared.extent.Extent.{Extent}
use Rattle.blob_rows.specs.Places.{least_place}
use Rattle.blob_rows.specs.Extents.{extent_at}
use Rattle.blob_rows.specs.declared.held.Held.{Held}
use Rattle.blob_rows.specs.declared.held.Held.TheVariants.{Placed, Present, NoNames, NoRoom}
use Rattle.blob_rows.specs.BlobRows.{units_of, BlobRowsState, blob_of, renewed_until, new_blob, place_for, put, put_result}
use Rattle.blob_rows.specs.declared.blob_row.BlobRow.{BlobRow}
use Rattle.blob_rows.proofs.Counts.{none_from}
use Rattle.content_store.specs.Contents.{Content, is_held, extent_of}
use Rattle.content_store.specs.Plain.{ContentStoreState, hold_result, held_after_hold}
use Rattle.content_store.specs.StoredRows.{AreStored, rows_beside}
use Rattle.content_store.proofs.Tied.{held_is, length_is, place_is}

-- whether a row that is lent is there
pub lent : (o : Option (Bor BlobRow)) (row : Option BlobRow) → option_copied o ≡ row → is_some row ≡ is_some o
lent o row is = sym (ap (λ (r : Option BlobRow). is_some r) is) ∙ copied o
  where
    copied : (o : Option (Bor BlobRow)) → is_some (option_copied o) ≡ is_some o
    copied None = refl
    copied (Some row) = refl

-- the rows after what the store answered
abbrev rows_after : Held → List BlobRow → ℕ → ContentStoreState → ℕ → List ℕ → ℕ → BlobRowsState
rows_after (Placed extent) rows placed store deadline digest size =
    rows_beside (rows ++ record { no = placed + 1; digest = digest; size = size; extent = extent; deadline = deadline } ∷ []) (placed + 1) store
rows_after Present rows placed store deadline digest size = rows_beside rows placed store
rows_after NoNames rows placed store deadline digest size = rows_beside rows placed store
rows_after NoRoom rows placed store deadline digest size = rows_beside rows placed store

-- an answer other than Placed changes nothing
pub rows_after-other : (h : Held) → ((e : Extent) → h ≡ Placed e → ⊥) → (rows : List BlobRow) (placed : ℕ) (store : ContentStoreState) (deadline : ℕ) (digest : List ℕ) (size : ℕ) →
    rows_after h rows placed store deadline digest size ≡ rows_beside rows placed store
rows_after-other (Placed extent) other rows placed store deadline digest size = absurd (other extent refl)
rows_after-other Present other rows placed store deadline digest size = refl
rows_after-other NoNames other rows placed store deadline digest size = refl
rows_after-other NoRoom other rows placed store deadline digest size = refl

pub held_after_hold-other : (h : Held) → ((e : Extent) → h ≡ Placed e → ⊥) → (digest : List ℕ) (size number : ℕ) (held : List Content) → held_after_hold h digest size number held ≡ held
held_after_hold-other (Placed extent) other digest size number held = absurd (other extent refl)
held_after_hold-other Present other digest size number held = refl
held_after_hold-other NoNames other digest size number held = refl
held_after_hold-other NoRoom other digest size number held = refl

-- the store after an answer
abbrev pub store_after : ContentStoreState → List ℕ → ℕ → ℕ → Held → ContentStoreState
store_after store digest size number h = record store { held = held_after_hold h digest size number store.held }

some_from : (o : Option BlobRow) → is_some o ≡ true → (row : BlobRow) × (o ≡ Some row)
some_from None is = absurd (cc)
some_from (Some row) is = (row, refl)

module _ (rows : List BlobRow) (placed : ℕ) (store : ContentStoreState) (stored : AreStored rows placed store.held) (digest : List ℕ) (size : ℕ) where
  abbrev before : BlobRowsState
  before = rows_beside rows placed store

  abbrev by_room : Option ℕ → Held
  by_room o = option_map_or (λ at. Placed (extent_at (units_of size) at)) o NoRoom

  -- what the store answers, told by the rows
  pub hold_result-is : hold_result store digest size ≡ put_result store.names before digest size
  hold_result-is =
      ap (λ (t : Bool). cond t Present (cond (leb store.names (length store.held)) NoNames (by_room (least_place (map extent_of store.held) store.units (units_of size)))))
      (held_is rows placed store.held stored digest)
      ∙ ap (λ (n : ℕ). cond (is_some (blob_of rows digest)) Present (cond (leb store.names n) NoNames (by_room (least_place (map extent_of store.held) store.units (units_of size)))))
      (sym (length_is rows placed store.held stored))
      ∙ ap (λ (o : Option ℕ). cond (is_some (blob_of rows digest)) Present (cond (leb store.names (length rows)) NoNames (by_room o)))
      (sym (place_is rows placed store.held stored store.units (units_of size)))

  -- ---- a blob that is present

  module _ (deadline : ℕ) (there : is_some (blob_of rows digest) ≡ true) where
    pub put-present : put before deadline digest size ≡ rows_beside (map (renewed_until deadline digest) rows) placed store
    put-present =
        ap (λ (o : Option BlobRow). option_map_or (λ row. let s : BlobRowsState = record before { rows = map (renewed_until deadline digest) rows } in s) o
        (option_map_or (λ place. record before { rows = rows ++ new_blob before deadline digest size place ∷ []; placed = placed + 1 }) (place_for before size) before))
        (some_from (blob_of rows digest) there).1

    pub store-present : store ≡ store_after store digest size (placed + 1) (hold_result store digest size)
    store-present =
        sym (ap (store_after store digest size (placed + 1)) (ap (λ (t : Bool). cond t Present
        (cond (leb store.names (length store.held)) NoNames (by_room (least_place (map extent_of store.held) store.units (units_of size)))))
        (held_is rows placed store.held stored digest ∙ there)))

  -- ---- a blob that is not present

  module _ (deadline : ℕ) (fresh : is_held store.held digest ≡ false) (few : length store.held < store.names) where
    abbrev by_place : Option ℕ → BlobRowsState
    by_place o = option_map_or (λ place. record before { rows = rows ++ new_blob before deadline digest size place ∷ []; placed = placed + 1 }) o before

    told_is : hold_result store digest size ≡ by_room (least_place (map extent_of store.held) store.units (units_of size))
    told_is =
        ap (λ (t : Bool). cond t Present (cond (leb store.names (length store.held)) NoNames (by_room (least_place (map extent_of store.held) store.units (units_of size))))) fresh
        ∙ ap (λ (t : Bool). cond t NoNames (by_room (least_place (map extent_of store.held) store.units (units_of size)))) (lt-leb store.names (length store.held) few)

    put_is : put before deadline digest size ≡ by_place (least_place (map extent_of store.held) store.units (units_of size))
    put_is =
        let absent : blob_of rows digest ≡ None = none_from (blob_of rows digest) (sym (held_is rows placed store.held stored digest) ∙ fresh) in
        ap (λ (o : Option BlobRow). option_map_or (λ row. let s : BlobRowsState = record before { rows = map (renewed_until deadline digest) rows } in s) o (by_place (place_for before size))) absent
        ∙ ap by_place (place_is rows placed store.held stored store.units (units_of size))

    agree : (o : Option ℕ) → by_place o ≡ rows_after (by_room o) rows placed store deadline digest size
    agree None = refl
    agree (Some at) = refl

    pub put-absent : (h : Held) → h ≡ hold_result store digest size → put before deadline digest size ≡ rows_after h rows placed store deadline digest size
    put-absent h told =
        put_is ∙ agree (least_place (map extent_of store.held) store.units (units_of size))
        ∙ ap (λ (x : Held). rows_after x rows placed store deadline digest size) (sym (told ∙ told_is))
