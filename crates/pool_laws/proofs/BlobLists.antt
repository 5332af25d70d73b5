-- Lists of blob rows: what is distinct in them, and what a put, a renewal and a removal leave.
use Rattle.std.proofs.Common.{◌≡◌, ℕ, ◌+◌, ◌≤◌, Bool, true, false, suc, List, [], ◌∷◌, ◌++◌, map, get_or, refl, sym, ap, ◌∙◌, subst, arith, Option, Some, None, is_some, ltb, filter}
use Rattle.std.specs.List.{All, AllPairs, count_by, list_any}
use Rattle.std.proofs.lemmas.Bool.{cond_both, le-ltb, not-true, or_parts}
use Rattle.std.proofs.lemmas.Bool.Decides.{nat_tests}
use Rattle.std.proofs.lemmas.List.{map_push}
use Rattle.std.proofs.lemmas.List.Elements.{All-from_get_or, All-get_or, All-map, All-filter, All-push, All-weaker}
use Rattle.std.proofs.lemmas.List.Kept.{AllPairs-cons}
use Rattle.std.proofs.lemmas.List.Quantifiers.{all_pairs_push}
use Rattle.std.proofs.lemmas.List.Folds.{list_any_none}
use Rattle.dimensions.proofs.Counting.{count-none}
use Rattle.blob_rows.specs.declared.extent.Extent.{Extent}
use Rattle.blob_rows.specs.Places.{overlaps, is_free}
use Rattle.blob_rows.specs.Extents.{AreApart}
use Rattle.blob_rows.proofs.LeastPlaces.{IsLeastFrom, least_place-least}
use Rattle.blob_rows.specs.BlobRows.{units_of, BlobRowsState, has_digest, is_blob, blob_of, extent_of_row, place_for, Stored, stored_row}
use Rattle.blob_rows.specs.declared.blob_row.BlobRow.{BlobRow}
use Rattle.blob_rows.proofs.Counts.{count_filtered, is_some-find}
use Rattle.blob_rows.proofs.Distinct.{digests-changed, numbers-changed, digests_more, numbers_more}
use Rattle.pool_laws.proofs.Lists.{Among, here, later, each, all, among_map}

-- ---- no digest and no number twice

-- no digest and no number stands twice, and no number is above that of the last blob that was placed
pub record AreDistinct (rows : List BlobRow) (placed : ℕ) : Type 0 where
  pub digests : (digest : List ℕ) → count_by (has_digest digest) rows ≤ 1
  pub numbers : (number : ℕ) → count_by (is_blob number) rows ≤ 1
  pub below : All (λ row. row.no ≤ placed) rows

module _ (rows : List BlobRow) (placed : ℕ) (d : AreDistinct rows placed) where
  numbered : count_by (λ (row : BlobRow). ltb placed row.no) rows ≡ 0
  numbered =
      count-none (λ (row : BlobRow). ltb placed row.no) rows
      (list_any_none (λ (row : BlobRow). ltb placed row.no) rows
      (all (λ (row : BlobRow). ltb placed row.no ≡ false) rows (λ row a. le-ltb placed row.no (each (λ (x : BlobRow). x.no ≤ placed) rows d.below row a))))

  -- other deadlines leave them so
  pub distinct_changed : (change : BlobRow → BlobRow) → ((row : BlobRow) → stored_row (change row) ≡ stored_row row) → ((row : BlobRow) → (change row).no ≡ row.no) → AreDistinct (map change rows) placed
  distinct_changed change same same_no =
      record {
        digests = λ digest. omega (arith, digests-changed rows change same same_no digest, d.digests digest);
        numbers = λ number. omega (arith, numbers-changed rows change same same_no number, d.numbers number);
        below = All-map (λ (row : BlobRow). row.no ≤ placed) change rows
            (all (λ (row : BlobRow). (change row).no ≤ placed) rows (λ row a. let low = each (λ (x : BlobRow). x.no ≤ placed) rows d.below row a in omega (arith, low, same_no row)));
      }

  -- so does a removal
  pub distinct_filtered : (keeps : BlobRow → Bool) → AreDistinct (filter keeps rows) placed
  distinct_filtered keeps =
      record {
        digests = λ digest. omega (arith, count_filtered keeps (has_digest digest) rows, d.digests digest);
        numbers = λ number. omega (arith, count_filtered keeps (is_blob number) rows, d.numbers number);
        below = All-filter keeps (λ (row : BlobRow). row.no ≤ placed) rows d.below;
      }

  -- and the next row, of a digest that is not there
  pub distinct_added : (row : BlobRow) → row.no ≡ placed + 1 → blob_of rows row.digest ≡ None → AreDistinct (rows ++ row ∷ []) (placed + 1)
  distinct_added row next absent =
      let fresh : list_any (has_digest row.digest) rows ≡ false = sym (is_some-find (has_digest row.digest) rows) ∙ ap (λ (o : Option BlobRow). is_some o) absent in
      record {
        digests = digests_more rows placed numbered row next fresh d.digests;
        numbers = numbers_more rows placed numbered row next d.numbers;
        below = All-push (λ (x : BlobRow). x.no ≤ placed + 1) rows row
            (All-weaker (λ (x : BlobRow). x.no ≤ placed) (λ (x : BlobRow). x.no ≤ placed + 1) (λ x low. omega (arith, low)) rows d.below) (omega (arith, next));
      }

-- ---- no unit twice

module _ {X Y : Type 0} (R : Y → Y → Type 0) (f : X → Y) where
  -- the first of a list and the others
  pairs_head : (y : Y) (ys : List Y) → AllPairs R (y ∷ ys) → All (R y) ys
  pairs_head y ys pairs = All-from_get_or (R y) ys y (λ i low. pairs 0 (suc i) y (omega arith) (omega (arith, low)))

  pairs_tail : (y : Y) (ys : List Y) → AllPairs R (y ∷ ys) → AllPairs R ys
  pairs_tail y ys pairs i j d less low = pairs (suc i) (suc j) d (omega (arith, less)) (omega (arith, low))

  -- pairs of what a filter leaves
  pub pairs_filtered : (keeps : X → Bool) (xs : List X) → AllPairs R (map f xs) → AllPairs R (map f (filter keeps xs))
  pairs_filtered keeps [] pairs = pairs
  pairs_filtered keeps (x ∷ xs) pairs =
      let rest = pairs_filtered keeps xs (pairs_tail (f x) (map f xs) pairs) in
      let first = pairs_head (f x) (map f xs) pairs in
      let own : All (λ z. R (f x) (f z)) xs = all (λ (z : X). R (f x) (f z)) xs (λ z a. each (R (f x)) (map f xs) first (f z) (among_map f xs z a)) in
      cond_both (keeps x) (x ∷ filter keeps xs) (filter keeps xs) (λ (l : List X). AllPairs R (map f l))
      (λ t. AllPairs-cons R (f x) (map f (filter keeps xs)) (All-map (R (f x)) f (filter keeps xs) (All-filter keeps (λ (z : X). R (f x) (f z)) xs own)) rest)
      (λ t. rest)

abbrev extents : List BlobRow → List Extent
extents rows = map extent_of_row rows

-- a change that leaves the extents
extents_changed : (change : BlobRow → BlobRow) → ((row : BlobRow) → stored_row (change row) ≡ stored_row row) → (rows : List BlobRow) → extents (map change rows) ≡ extents rows
extents_changed change same [] = refl
extents_changed change same (row ∷ rows) =
    ap (λ (s : Stored). s.extent ∷ extents (map change rows)) (same row) ∙ ap (λ (l : List Extent). row.extent ∷ l) (extents_changed change same rows)

pub apart_changed : (change : BlobRow → BlobRow) → ((row : BlobRow) → stored_row (change row) ≡ stored_row row) → (rows : List BlobRow) → AreApart (extents rows) → AreApart (extents (map change rows))
apart_changed change same rows apart = subst AreApart (sym (extents_changed change same rows)) apart

pub apart_filtered : (keeps : BlobRow → Bool) (rows : List BlobRow) → AreApart (extents rows) → AreApart (extents (filter keeps rows))
apart_filtered keeps rows apart = pairs_filtered (λ (a b : Extent). overlaps a.at a.units b ≡ false) extent_of_row keeps rows apart

-- a place that was found is free, and within the region
pub record IsPlace (rows : List BlobRow) (units n place : ℕ) : Type 0 where
  pub inside : place + n ≤ units
  pub free : is_free (extents rows) n place ≡ true

pub place_is : (s : BlobRowsState) (size place : ℕ) → place_for s size ≡ Some place → IsPlace s.rows s.units (units_of size) place
place_is s size place found =
    let least = subst (λ (o : Option ℕ). IsLeastFrom (extents s.rows) (units_of size) s.units 0 o) found (least_place-least (extents s.rows) s.units (units_of size)) in
    record { inside = least.1; free = least.2 }

-- where a test passes nowhere, it passes at no item
none_passes : {X : Type 0} (test : X → Bool) (xs : List X) → list_any test xs ≡ false → (x : X) → Among x xs → test x ≡ false
none_passes test [] none x a = elim a [ ]
none_passes test (y ∷ ys) none x here = (or_parts (test x) (list_any test ys) none).0
none_passes test (y ∷ ys) none x (later a) = none_passes test ys (or_parts (test y) (list_any test ys) none).1 x a

-- free units share none with an extent, nor it with them
turned : (a b : Extent) → overlaps b.at b.units a ≡ false → overlaps a.at a.units b ≡ false
turned a b clear = grind (arith, nat_tests)

-- an extent of free units shares none with the others
pub apart_added : (rows : List BlobRow) (row : BlobRow) → is_free (extents rows) row.extent.units row.extent.at ≡ true → AreApart (extents rows) → AreApart (extents (rows ++ row ∷ []))
apart_added rows row free apart =
    subst AreApart (sym (map_push extent_of_row rows row))
    (all_pairs_push (λ (a b : Extent). overlaps a.at a.units b ≡ false) (extents rows) row.extent apart
    (λ k d low. turned (get_or (extents rows) k d) row.extent
    (All-get_or Clear (extents rows) k d low (all Clear (extents rows) (none_passes (overlaps row.extent.at row.extent.units) (extents rows) (not-true _ free))))))
  where
    Clear : Extent → Type 0
    Clear e = overlaps row.extent.at row.extent.units e ≡ false
