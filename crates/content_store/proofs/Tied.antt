-- The rows and the store: what the rows tell of what is held, and what keeps them tied.
use Rattle.std.proofs.Common.{◌≡◌, ℕ, ◌+◌, ◌<◌, Bool, true, false, not, cond, Some, List, [], ◌∷◌, ◌++◌, length, get_or, map, is_some, refl, sym, ap, ◌∙◌, subst, arith, ltb}
use Rattle.std.specs.List.{filter, count_by, list_any}
use Rattle.std.specs.Cmp.Lexicographic.{bytes_decides}
use Rattle.std.proofs.lemmas.List.{map_push, length-map}
use Rattle.std.proofs.lemmas.List.Sums.{sum_by-cons, sum_by_push}
use Rattle.dimensions.proofs.Counting.{list_any-map}
use Rattle.blob_rows.specs.declared.extent.Extent.{Extent}
use Rattle.blob_rows.specs.Places.{overlaps, is_free, least_place}
use Rattle.blob_rows.specs.SameItems.{SameItems}
use Rattle.blob_rows.proofs.SameItems.{pass, list_any-same, filter-same, length-same}
use Rattle.blob_rows.proofs.LeastPlaces.{least_place-same}
use Rattle.blob_rows.specs.declared.filled.Filled.{Filled}
use Rattle.blob_rows.specs.declared.filled.Filled.TheVariants.{Done, Differs, Unknown}
use Rattle.blob_rows.specs.Digests.{same_digest}
use Rattle.blob_rows.specs.declared.blob_row.BlobRow.{BlobRow}
use Rattle.blob_rows.specs.BlobRows.{has_digest, is_blob, is_other, blob_of, extent_of_row, Stored, stored_row}
use Rattle.blob_rows.proofs.Counts.{count_filtered, is_some-find, remove_one, map-filter, map-same}
use Rattle.blob_rows.proofs.Distinct.{digests-changed, numbers-changed, above-changed, digests_more, numbers_more, above_more}
use Rattle.content_store.specs.Contents.{Content, is_named, is_held, extent_of, with_content, without_content, filled_with}
use Rattle.content_store.specs.Plain.{held_after_fill}
use Rattle.content_store.proofs.ByDigest.{with_content-same}
use Rattle.content_store.specs.StoredRows.{stored_content, AreStored}

abbrev extent_in : Stored → Extent
extent_in stored = stored.extent

extents_of_rows : (rows : List BlobRow) → map extent_in (map stored_row rows) ≡ map extent_of_row rows
extents_of_rows [] = refl
extents_of_rows (row ∷ rows) = ap (λ (l : List Extent). row.extent ∷ l) (extents_of_rows rows)

extents_of_held : (held : List Content) → map extent_in (map stored_content held) ≡ map extent_of held
extents_of_held [] = refl
extents_of_held (content ∷ held) = ap (λ (l : List Extent). content.extent ∷ l) (extents_of_held held)

module _ (rows : List BlobRow) (placed : ℕ) (held : List Content) (stored : AreStored rows placed held) where
  -- ---- what the rows tell of the store

  pub held_is : (digest : List ℕ) → is_held held digest ≡ is_some (blob_of rows digest)
  held_is digest =
      is_some-find (is_named digest) held
      ∙ sym (list_any-map (λ (s : Stored). same_digest s.digest digest) stored_content held)
      ∙ sym (list_any-same (λ (s : Stored). same_digest s.digest digest) (map stored_row rows) (map stored_content held) stored.same)
      ∙ list_any-map (λ (s : Stored). same_digest s.digest digest) stored_row rows
      ∙ sym (is_some-find (has_digest digest) rows)

  pub length_is : length rows ≡ length held
  length_is = sym (length-map rows stored_row) ∙ length-same (map stored_row rows) (map stored_content held) stored.same ∙ length-map held stored_content

  same_extents : SameItems (map extent_of_row rows) (map extent_of held)
  same_extents =
      subst (λ (l : List Extent). SameItems l (map extent_of held)) (extents_of_rows rows)
      (subst (λ (l : List Extent). SameItems (map extent_in (map stored_row rows)) l) (extents_of_held held)
      (map-same extent_in (map stored_row rows) (map stored_content held) stored.same))

  pub place_is : (units n : ℕ) → least_place (map extent_of_row rows) units n ≡ least_place (map extent_of held) units n
  place_is units n = least_place-same (map extent_of_row rows) (map extent_of held) units n same_extents

  pub free_is : (n place : ℕ) → is_free (map extent_of_row rows) n place ≡ is_free (map extent_of held) n place
  free_is n place = ap not (list_any-same (overlaps place n) (map extent_of_row rows) (map extent_of held) same_extents)

  -- ---- a row more

  module _ (row : BlobRow) (content : Content) (same_stored : stored_row row ≡ stored_content content) (next : row.no ≡ placed + 1) (fresh : is_held held row.digest ≡ false) where
    absent : list_any (has_digest row.digest) rows ≡ false
    absent = sym (is_some-find (has_digest row.digest) rows) ∙ sym (held_is row.digest) ∙ fresh

    pub added : AreStored (rows ++ row ∷ []) (placed + 1) (with_content content held)
    added = record {
      same = λ test.
          let grown = ap (λ (l : List Stored). count_by test l) (map_push stored_row rows row) in
          let more = map-same stored_content (with_content content held) (content ∷ held) (with_content-same content held) test in
          let one : pass test (stored_row row) ≡ pass test (stored_content content) = ap (pass test) same_stored in
          omega (arith, grown, more, one, sum_by_push (pass test) (map stored_row rows) (stored_row row), sum_by-cons (pass test) (stored_content content) (map stored_content held), stored.same test);
      digests = digests_more rows placed stored.numbered row next absent stored.digests;
      numbers = numbers_more rows placed stored.numbered row next stored.numbers;
      numbered = above_more rows placed stored.numbered row next;
    }

  -- ---- a row less

  pub removed : (number i : ℕ) (d : BlobRow) → i < length rows → is_blob number (get_or rows i d) ≡ true →
      AreStored (filter (is_other number) rows) placed (without_content (get_or rows i d).digest held)
  removed number i d low is =
      let row : BlobRow = get_or rows i d in
      let itself : has_digest row.digest row ≡ true = (bytes_decides row.digest row.digest).1 refl in
      let gone : filter (is_other number) rows ≡ filter (λ r. not (has_digest row.digest r)) rows =
      sym (remove_one (is_blob number) rows i d (stored.numbers number) low is) ∙ remove_one (has_digest row.digest) rows i d (stored.digests row.digest) low itself in
      let keeps : Stored → Bool = λ s. not (same_digest s.digest row.digest) in
      record {
        same = subst (λ (l : List BlobRow). SameItems (map stored_row l) (map stored_content (without_content row.digest held))) (sym gone)
            (subst (λ (l : List Stored). SameItems l (map stored_content (without_content row.digest held))) (sym (map-filter stored_row keeps rows))
            (subst (λ (l : List Stored). SameItems (filter keeps (map stored_row rows)) l) (sym (map-filter stored_content keeps held))
            (filter-same keeps (map stored_row rows) (map stored_content held) stored.same)));
        digests = λ digest. omega (arith, count_filtered (is_other number) (has_digest digest) rows, stored.digests digest);
        numbers = λ n. omega (arith, count_filtered (is_other number) (is_blob n) rows, stored.numbers n);
        numbered = omega (arith, count_filtered (is_other number) (λ (r : BlobRow). ltb placed r.no) rows, stored.numbered);
      }

  -- ---- other deadlines

  -- a change of rows that leaves their numbers and what is stored
  pub changed : (change : BlobRow → BlobRow) → ((row : BlobRow) → stored_row (change row) ≡ stored_row row) → ((row : BlobRow) → (change row).no ≡ row.no) → AreStored (map change rows) placed held
  changed change same same_no =
      record {
        same = subst (λ (l : List Stored). SameItems l (map stored_content held)) (sym (stored_of rows)) stored.same;
        digests = λ digest. omega (arith, digests-changed rows change same same_no digest, stored.digests digest);
        numbers = λ number. omega (arith, numbers-changed rows change same same_no number, stored.numbers number);
        numbered = above-changed rows change same same_no placed ∙ stored.numbered;
      }
    where
      stored_of : (rs : List BlobRow) → map stored_row (map change rs) ≡ map stored_row rs
      stored_of [] = refl
      stored_of (r ∷ rs) = ap (λ (s : Stored). s ∷ map stored_row (map change rs)) (same r) ∙ ap (λ (l : List Stored). stored_row r ∷ l) (stored_of rs)

  -- ---- bytes that come

  pub filled : (f : Filled) (digest bytes : List ℕ) → AreStored rows placed (held_after_fill f digest bytes held)
  filled Done digest bytes =
      record {
        same = subst (λ (l : List Stored). SameItems (map stored_row rows) l) (sym (stored_of held)) stored.same;
        digests = stored.digests;
        numbers = stored.numbers;
        numbered = stored.numbered;
      }
    where
      by_test : (t : Bool) (c : Content) → stored_content (cond t (record c { bytes = Some bytes }) c) ≡ stored_content c
      by_test true c = refl
      by_test false c = refl

      stored_of : (cs : List Content) → map stored_content (map (filled_with digest bytes) cs) ≡ map stored_content cs
      stored_of [] = refl
      stored_of (c ∷ cs) = ap (λ (s : Stored). s ∷ map stored_content (map (filled_with digest bytes) cs)) (by_test (is_named digest c) c) ∙ ap (λ (l : List Stored). stored_content c ∷ l) (stored_of cs)
  filled Unknown digest bytes = stored
  filled (Differs actual) digest bytes = stored
