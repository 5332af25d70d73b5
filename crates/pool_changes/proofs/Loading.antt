-- The rows of a base's blobs, which are loaded one after the other.
use Rattle.std.proofs.Common.{◌≡◌, ℕ, ◌+◌, ◌-◌, ◌≤◌, ◌<◌, ◌^◌, Bool, true, false, not, cond, List, [], ◌∷◌, ◌++◌, take, map, length, get_or, Option, None, is_some, refl, sym, ap, ◌∙◌, subst, arith, ltb}
use Rattle.std.specs.Prelude.{◌&&◌}
use Rattle.std.specs.List.{All, count_by, find}
use Rattle.std.specs.Cmp.Lexicographic.{bytes_decides}
use Rattle.std.proofs.Math.Seq.{take-length}
use Rattle.std.proofs.lemmas.List.{take_more, length-take-le, length-map, get_or-take, get_or-map, get_or_read}
use Rattle.std.proofs.lemmas.List.Folds.{list_any_none}
use Rattle.std.proofs.lemmas.List.Sums.{count_by_more_yes, sum_by-take-le}
use Rattle.dimensions.proofs.Counting.{list_any-map, any-none}
use Rattle.blob_rows.specs.declared.blob_row.BlobRow.{BlobRow}
use Rattle.blob_rows.specs.declared.extent.Extent.{Extent}
use Rattle.blob_rows.specs.Places.{overlaps, is_free}
use Rattle.blob_rows.specs.Extents.{extent_at, AreApart}
use Rattle.blob_rows.specs.BlobRows.{has_digest, blob_of, extent_of_row, units_of, new_blob}
use Rattle.blob_rows.proofs.Counts.{is_some-find, none_from}
use Rattle.content_store.specs.Contents.{Content, content_of, bytes_of, unfilled_content, with_content}
use Rattle.content_store.specs.StoredRows.{BlobsState, AreStored, rows_in}
use Rattle.content_store.proofs.Tied.{held_is}
use Rattle.swarm_model.specs.declared.pool_state.PoolState.{PoolState}
use Rattle.swarm_model.specs.BaseRules.{AreBaseRows, IsBase}
use Rattle.swarm_model.specs.Blobs.{most_blobs}
use Rattle.swarm_model.specs.Soundness.{IsSoundBlob}
use Rattle.pool_changes.specs.Blobs.{held_in}
use Rattle.pool_changes.specs.Loads.{IsNextBlob, AreLoaded}
use Rattle.pool_changes.proofs.Contents.{bytes_new}

-- ---- what one row and those before it are to each other

-- where one item at most passes a test, none before it does
none_before : {X : Type 0} (p : X → Bool) (xs : List X) (i : ℕ) (d : X) → i < length xs → count_by p xs ≤ 1 → p (get_or xs i d) ≡ true → find p (take i xs) ≡ None
none_before p xs i d low few passes =
    let more = count_by_more_yes p xs i d low passes in
    let within : count_by p (take (i + 1) xs) ≤ count_by p xs = sum_by-take-le (λ x. cond {A = ℕ} (p x) 1 0) xs (i + 1) in
    let none : count_by p (take i xs) ≡ 0 = omega (arith, more, within, few) in
    none_from (find p (take i xs)) (is_some-find p (take i xs) ∙ any-none p (take i xs) none)

and_turned : (a b : Bool) → (a && b) ≡ (b && a)
and_turned true true = refl
and_turned true false = refl
and_turned false true = refl
and_turned false false = refl

overlaps-turned : (a b : Extent) → overlaps a.at a.units b ≡ overlaps b.at b.units a
overlaps-turned a b = and_turned (ltb b.at (a.at + a.units)) (ltb a.at (b.at + b.units))

-- the units of a row are free beside those of the rows before it
module _ (rows : List BlobRow) (i : ℕ) (d : BlobRow) (low : i < length rows) (apart : AreApart (map extent_of_row rows)) where
  abbrev own : Extent
  own = (get_or rows i d).extent

  clear : All (λ (x : BlobRow). overlaps own.at own.units x.extent ≡ false) (take i rows)
  clear k e under =
      let few = length-take-le i rows (omega (arith, low)) in
      let before : k < i = omega (arith, under, few) in
      let long = length-map rows extent_of_row in
      let one : get_or (map extent_of_row rows) k e.extent ≡ (get_or rows k e).extent = get_or-map extent_of_row rows k e e.extent (omega (arith, before, low)) in
      let two : get_or (map extent_of_row rows) i e.extent ≡ own = get_or-map extent_of_row rows i d e.extent low in
      let shares_none : overlaps (get_or rows k e).extent.at (get_or rows k e).extent.units own ≡ false =
      subst (λ (x : Extent). overlaps x.at x.units own ≡ false) one
      (subst (λ (x : Extent). overlaps (get_or (map extent_of_row rows) k e.extent).at (get_or (map extent_of_row rows) k e.extent).units x ≡ false) two
      (apart k i e.extent before (omega (arith, low, long)))) in
      ap (λ (x : BlobRow). overlaps own.at own.units x.extent) (get_or-take i rows k e before)
      ∙ overlaps-turned own (get_or rows k e).extent ∙ shares_none

  free_before : is_free (map extent_of_row (take i rows)) own.units own.at ≡ true
  free_before =
      ap not (list_any-map (overlaps own.at own.units) extent_of_row (take i rows)
      ∙ list_any_none (λ (x : BlobRow). overlaps own.at own.units (extent_of_row x)) (take i rows) clear)

-- ---- one row more

-- the row of a new blob with the number before, the digest, the size and the place of a row is this row
pub loaded_row : (old numbered : BlobsState) (row : BlobRow) → IsNextBlob old row → numbered ≡ record old { placed = row.no - 1 } →
    new_blob (rows_in numbered) row.deadline row.digest row.size row.extent.at ≡ row
loaded_row old numbered row next is =
    let above = next.above in
    let placed = ap (λ (b : BlobsState). b.placed) is in
    let number : numbered.placed + 1 ≡ row.no = omega (arith, placed, above) in
    let units = sym next.units in
    let extent : extent_at (units_of row.size) row.extent.at ≡ row.extent = λ i. let e : Extent = record { at = row.extent.at; units = units i } in e in
    λ i. let r : BlobRow = record { no = number i; digest = row.digest; size = row.size; extent = extent i; deadline = row.deadline } in r

-- a content without bytes, of a digest that was not there, leaves the bytes that are held
pub held_loaded : (rows : List BlobRow) (placed : ℕ) (held : List Content) → AreStored rows placed held → (digest : List ℕ) (size number : ℕ) (extent : Extent) → blob_of rows digest ≡ None →
    bytes_of (with_content (unfilled_content digest size number extent) held) ≡ bytes_of held
held_loaded rows placed held stored digest size number extent absent =
    let not_held : content_of held digest ≡ None =
    none_from (content_of held digest) (held_is rows placed held stored digest ∙ ap (λ (o : Option BlobRow). is_some o) absent) in
    λ i other. bytes_new (unfilled_content digest size number extent) held refl not_held other i

module _ (base : PoolState) (is_base : IsBase base.settings (2 ^ 31) base) (place : ℕ) (blobs : BlobsState) (before : AreLoaded base place blobs) (row : BlobRow) (low : place < length base.blobs)
    (is : row ≡ get_or base.blobs place row) where
  sound : IsSoundBlob base row
  sound = subst (IsSoundBlob base) (sym is) (is_base.sound.blobs place row low)

  pub next_blob : IsNextBlob blobs row
  next_blob =
      let number = sound.placed in
      let most = is_base.placed in
      let inside = sound.inside in
      let many = length-take-le place base.blobs (omega (arith, low)) in
      let loaded = ap length before.rows in
      let few = is_base.sound.few_blobs in
      let units = before.of_pool.units in
      let names = before.of_pool.names in
      record {
        above = subst (λ (r : BlobRow). blobs.placed < r.no) (sym is) (before.above place row (omega arith) low);
        number = omega (arith, number, most);
        fresh = ap (λ (rows : List BlobRow). blob_of rows row.digest) before.rows
            ∙ none_before (has_digest row.digest) base.blobs place row low (is_base.sound.digests row.digest) (ap (has_digest row.digest) (sym is) ∙ (bytes_decides row.digest row.digest).1 refl);
        few = omega (arith, low, many, loaded, few, names);
        units = sound.units;
        inside = omega (arith, inside, units);
        free = ap (λ (rows : List BlobRow). is_free (map extent_of_row rows) row.extent.units row.extent.at) before.rows
            ∙ subst (λ (r : BlobRow). is_free (map extent_of_row (take place base.blobs)) r.extent.units r.extent.at ≡ true) (sym is) (free_before base.blobs place row low is_base.sound.apart);
      }

  pub next_loaded : (new : BlobsState) → new.rows ≡ blobs.rows ++ row ∷ [] → new.placed ≡ row.no → held_in new ≡ held_in blobs →
      new.store.units ≡ blobs.store.units → new.store.names ≡ blobs.store.names → AreLoaded base (place + 1) new
  next_loaded new rows placed held units names =
      let most = sound.placed in
      record {
        rows = rows ∙ ap (λ (l : List BlobRow). l ++ row ∷ []) before.rows ∙ ap (λ (x : BlobRow). take place base.blobs ++ x ∷ []) is ∙ sym (take_more base.blobs place row low);
        above = λ k d from under.
            let rises : (get_or base.blobs place d).no < (get_or base.blobs k d).no = is_base.rows.rising place k d (omega (arith, from)) under in
            let number : row.no ≡ (get_or base.blobs place d).no = ap (λ (x : BlobRow). x.no) (get_or_read base.blobs place row low is d) in
            omega (arith, placed, number, rises);
        placed = omega (arith, placed, most);
        of_pool = record { units = units ∙ before.of_pool.units; names = names ∙ before.of_pool.names };
        held = held ∙ before.held;
      }

-- ---- none of the rows, and all of them

pub none_loaded : (base : PoolState) (blobs : BlobsState) → AreBaseRows base →
    blobs ≡ record { rows = []; placed = 0; store = record { units = base.settings.store_units; names = most_blobs; held = [] } } → AreLoaded base 0 blobs
none_loaded base blobs rows is =
    subst (AreLoaded base 0) (sym is) (record {
      rows = refl;
      above = λ k d from under. let some = rows.blobs k d under in omega (arith, some);
      placed = omega arith;
      of_pool = record { units = refl; names = refl };
      held = refl;
    })

pub all_loaded : (base : PoolState) (place : ℕ) (blobs : BlobsState) → AreLoaded base place blobs → place ≡ length base.blobs → blobs.rows ≡ base.blobs
all_loaded base place blobs loaded is = loaded.rows ∙ ap (λ (n : ℕ). take n base.blobs) is ∙ take-length base.blobs
