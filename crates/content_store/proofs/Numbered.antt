-- Rows whose numbers rise: where a number stands, and where a digest stands whose number the store tells.
use Rattle.std.proofs.Common.{◌≡◌, ℕ, suc, ◌+◌, ◌≤◌, ◌<◌, Bool, true, false, ◌&&◌, ◌||◌, List, [], ◌∷◌, ◌++◌, length, get_or, set, map, Option, Some, None, Result, Ok, Err, is_some, refl, sym, ap, ◌∙◌, arith, cond, eqb, ltb, inl, inr}
use Rattle.std.specs.List.{position, find, filter, count_by, list_any}
use Rattle.std.specs.List.Sorted.{IsSearchInRange, IsBinarySearchResult, IsNonDecreasingBy}
use Rattle.std.specs.Option.{option_map}
use Rattle.std.specs.Ordering.{nat_cmp, ordering_index}
use Rattle.std.specs.Result.{result_ok}
use Rattle.std.proofs.lemmas.Bool.{eq-eqb, eqb-true, ne_eqb, ltb-false, cases_lt, and_parts}
use Rattle.std.proofs.lemmas.Bool.Decides.{nat_tests}
use Rattle.std.proofs.lemmas.Cmp.{ranked}
use Rattle.std.proofs.lemmas.List.{length-map, get_or-map}
use Rattle.std.proofs.lemmas.List.Folds.{Any-from_list_any, list_any_none}
use Rattle.std.proofs.lemmas.List.Kept.{AllPairs-filter}
use Rattle.std.proofs.lemmas.List.Quantifiers.{all_pairs_push, position-Some}
use Rattle.std.proofs.lemmas.List.Sums.{sum_by-cons}
use Rattle.dimensions.proofs.Counting.{count-none, list_any-map}
use Rattle.blob_rows.proofs.SameItems.{pass, list_any-same}
use Rattle.blob_rows.specs.Digests.{same_digest}
use Rattle.blob_rows.specs.declared.blob_row.BlobRow.{BlobRow}
use Rattle.blob_rows.specs.BlobRows.{has_digest, is_blob, renewed, renewed_until, longer_kept, Stored, stored_row}
use Rattle.blob_rows.proofs.Counts.{passed, failed, is_some-find, there_counted, one_place, none_place, change_one}
use Rattle.content_store.specs.Contents.{Content, is_named, content_of, number_of}
use Rattle.content_store.specs.RowOrder.{NumbersRise}
use Rattle.content_store.specs.StoredRows.{stored_content, AreStored}
use Rattle.content_store.proofs.Tied.{held_is}

-- ---- rows whose numbers rise

abbrev pub no_row : BlobRow
no_row = record { no = 0; digest = []; size = 0; extent = record { at = 0; units = 0 }; deadline = 0 }

rising_tail : (row : BlobRow) (rows : List BlobRow) → NumbersRise (row ∷ rows) → NumbersRise rows
rising_tail row rows rising i j d less low = rising (suc i) (suc j) d (omega arith) (omega arith)

-- no number stands twice
pub number_once : (number : ℕ) (rows : List BlobRow) → NumbersRise rows → count_by (is_blob number) rows ≤ 1
number_once number [] rising = omega arith
number_once number (row ∷ rows) rising = by_test (eqb row.no number) refl (number_once number rows (rising_tail row rows rising))
  where
    by_test : (t : Bool) → eqb row.no number ≡ t → count_by (is_blob number) rows ≤ 1 → count_by (is_blob number) (row ∷ rows) ≤ 1
    by_test true is rest =
        let none : count_by (is_blob number) rows ≡ 0 =
        count-none (is_blob number) rows (list_any_none (is_blob number) rows (λ k d low.
        ne_eqb (get_or rows k d).no number (let less : row.no < (get_or rows k d).no = rising 0 (suc k) d (omega arith) (omega arith) in let own : row.no ≡ number = eqb-true row.no number is in λ same. omega arith))) in
        omega (arith, none, sum_by-cons (pass (is_blob number)) row rows, passed (is_blob number) row is)
    by_test false is rest = omega (arith, rest, sum_by-cons (pass (is_blob number)) row rows, failed (is_blob number) row is)

pub rising_filtered : (keeps : BlobRow → Bool) (rows : List BlobRow) → NumbersRise rows → NumbersRise (filter keeps rows)
rising_filtered keeps rows rising = AllPairs-filter (λ (a b : BlobRow). a.no < b.no) keeps rows rising

-- a row more, above all that were placed
pub rising_pushed : (rows : List BlobRow) (placed : ℕ) (row : BlobRow) → NumbersRise rows → count_by (λ r. ltb placed r.no) rows ≡ 0 → row.no ≡ placed + 1 → NumbersRise (rows ++ row ∷ [])
rising_pushed rows placed row rising none next = all_pairs_push (λ (a b : BlobRow). a.no < b.no) rows row rising below
  where
    below : (k : ℕ) (d : BlobRow) → k < length rows → (get_or rows k d).no < row.no
    below k d low = by_test (ltb placed (get_or rows k d).no) refl
      where
        by_test : (t : Bool) → ltb placed (get_or rows k d).no ≡ t → (get_or rows k d).no < row.no
        by_test true is = absurd (omega (arith, none, there_counted (λ (r : BlobRow). ltb placed r.no) rows k d low is))
        by_test false is = omega (arith, next, ltb-false placed (get_or rows k d).no is)

-- rows that keep their numbers
pub rising_changed : (change : BlobRow → BlobRow) → ((row : BlobRow) → (change row).no ≡ row.no) → (rows : List BlobRow) → NumbersRise rows → NumbersRise (map change rows)
rising_changed change same rows rising i j d less low =
    let far : j < length rows = omega (arith, low, length-map rows change) in
    let one : (get_or (map change rows) i d).no ≡ (get_or rows i d).no = ap (λ (r : BlobRow). r.no) (get_or-map change rows i d d (omega arith)) ∙ same (get_or rows i d) in
    let two : (get_or (map change rows) j d).no ≡ (get_or rows j d).no = ap (λ (r : BlobRow). r.no) (get_or-map change rows j d d far) ∙ same (get_or rows j d) in
    omega (arith, one, two, rising i j d less far)

-- ---- the place of a number

module _ (rows : List BlobRow) (rising : NumbersRise rows) (number : ℕ) where
  -- the comparisons with the number rise along the rows, as a bisection asks
  comparisons_rise : IsNonDecreasingBy (λ row. ordering_index (nat_cmp row.no number)) rows
  comparisons_rise i j d le low =
      let numbers : (get_or rows i d).no ≤ (get_or rows j d).no = grind (arith, rising i j d, λ (same : i ≡ j). ap (λ (k : ℕ). (get_or rows k d).no) same) in
      grind (arith, nat_tests)

  pub bisected : (r : Result ℕ ℕ) → IsSearchInRange r (length rows) → IsBinarySearchResult (λ row. nat_cmp row.no number) rows r → result_ok r ≡ position (is_blob number) rows
  bisected (Ok at) bound equal =
      let own : (get_or rows at no_row).no ≡ number = ranked _ number _ (sym (equal no_row)) in
      sym (one_place (is_blob number) rows at no_row (number_once number rows rising) bound (eq-eqb (get_or rows at no_row).no number own))
  bisected (Err at) bound parted =
      sym (none_place (is_blob number) rows (list_any_none (is_blob number) rows (λ k d low.
      ne_eqb (get_or rows k d).no number (elim (cases_lt k at) [
        | inl before ↦ let less : (get_or rows k d).no < number = ranked _ number _ (sym ((parted comparisons_rise).0 k d (omega arith) before)) in λ same. omega arith
        | inr behind ↦ let more : number < (get_or rows k d).no = ranked _ number _ (sym ((parted comparisons_rise).1 k d behind low)) in λ same. omega arith
      ]))))

-- ---- the place of a digest

-- a number that is told is that of a content
told_number : (o : Option Content) (number : ℕ) → option_map (λ content. content.number) o ≡ Some number → (content : Content) × (o ≡ Some content) × (content.number ≡ number)
told_number None number is = absurd (cc)
told_number (Some content) number is = let same : content.number ≡ number = cc in (content, refl, same)

untold_number : (o : Option Content) → option_map (λ content. content.number) o ≡ None → is_some o ≡ false
untold_number None is = refl
untold_number (Some content) is = absurd (cc)

-- an item that is found by one test and passes another passes both
found_both : {X : Type 0} (p q : X → Bool) (xs : List X) (x : X) → find p xs ≡ Some x → q x ≡ true → list_any (λ y. p y && q y) xs ≡ true
found_both p q [] x found passes = absurd (cc)
found_both p q (y ∷ ys) x found passes = by_test (p y) found (found_both p q ys x)
  where
    by_test : (t : Bool) → cond t (Some y) (find p ys) ≡ Some x → (find p ys ≡ Some x → q x ≡ true → list_any (λ z. p z && q z) ys ≡ true) →
        ((t && q y) || list_any (λ z. p z && q z) ys) ≡ true
    by_test true found rest = let same : y ≡ x = cc in ap (λ (t : Bool). t || list_any (λ z. p z && q z) ys) (ap q same ∙ passes)
    by_test false found rest = rest found passes

module _ (rows : List BlobRow) (placed : ℕ) (held : List Content) (stored : AreStored rows placed held) (digest : List ℕ) where
  pub place_absent : number_of held digest ≡ None → position (has_digest digest) rows ≡ None
  place_absent untold =
      none_place (has_digest digest) rows (sym (is_some-find (has_digest digest) rows) ∙ sym (held_is rows placed held stored digest) ∙ untold_number (content_of held digest) untold)

  pub place_same : (number : ℕ) → number_of held digest ≡ Some number → position (is_blob number) rows ≡ position (has_digest digest) rows
  place_same number told =
      let both : Stored → Bool = λ s. same_digest s.digest digest && eqb s.number number in
      let content = told_number (content_of held digest) number told in
      let there : list_any (λ row. has_digest digest row && is_blob number row) rows ≡ true =
      sym (list_any-map both stored_row rows) ∙ list_any-same both (map stored_row rows) (map stored_content held) stored.same ∙ list_any-map both stored_content held
      ∙ found_both (is_named digest) (λ c. eqb c.number number) held content.0 content.1 (eq-eqb content.0.number number content.2) in
      let any = Any-from_list_any (λ (row : BlobRow). has_digest digest row && is_blob number row) rows there in
      let passes = and_parts (has_digest digest any.1) (is_blob number any.1) any.4 in
      one_place (is_blob number) rows any.0 any.1 (stored.numbers number) any.2 (ap (is_blob number) any.3 ∙ passes.1)
      ∙ sym (one_place (has_digest digest) rows any.0 any.1 (stored.digests digest) any.2 (ap (has_digest digest) any.3 ∙ passes.0))

-- ---- other deadlines

-- the one row of a digest is renewed
pub renewed_one : (digest : List ℕ) (deadline : ℕ) (rows : List BlobRow) (i : ℕ) → count_by (has_digest digest) rows ≤ 1 → position (has_digest digest) rows ≡ Some i →
    set rows i (renewed deadline (get_or rows i no_row)) ≡ map (renewed_until deadline digest) rows
renewed_one digest deadline rows i few is =
    let there = position-Some (has_digest digest) rows i no_row is in change_one (has_digest digest) (renewed deadline) rows i no_row few there.0 there.1

-- the one row of a number is kept longer
pub longer_one : (number secs : ℕ) (rows : List BlobRow) (i : ℕ) → NumbersRise rows → position (is_blob number) rows ≡ Some i → (d : BlobRow) →
    set rows i (renewed ((get_or rows i d).deadline + secs) (get_or rows i d)) ≡ map (longer_kept secs number) rows
longer_one number secs rows i rising is d =
    let there = position-Some (is_blob number) rows i d is in
    change_one (is_blob number) (λ row. renewed (row.deadline + secs) row) rows i d (number_once number rows rising) there.0 there.1
