-- Rows of which no two have a digest or a number: what other deadlines leave, and a row more.
use Rattle.std.proofs.Common.{◌≡◌, ℕ, ◌+◌, ◌≤◌, Bool, true, false, cond, List, [], ◌∷◌, ◌++◌, map, subst, refl, ap, ◌∙◌, arith, ltb, eqb}
use Rattle.std.specs.List.{count_by, list_any}
use Rattle.std.specs.Cmp.Lexicographic.{bytes_decides}
use Rattle.std.proofs.lemmas.Bool.{ltb-true, le-ltb, lt-ltb, eqb-true}
use Rattle.std.proofs.lemmas.List.Sums.{sum_by_push}
use Rattle.dimensions.proofs.Counting.{count-map, count-none}
use Rattle.blob_rows.specs.declared.blob_row.BlobRow.{BlobRow}
use Rattle.blob_rows.specs.Digests.{same_digest}
use Rattle.blob_rows.specs.BlobRows.{has_digest, is_blob, renewed, Stored, stored_row}
use Rattle.blob_rows.proofs.SameItems.{pass}
use Rattle.blob_rows.proofs.Counts.{passed, failed, count_same, count_implied}

-- another deadline, for some rows, leaves what is stored, and the number
pub stored-renewed : (t : Bool) (deadline : ℕ) (row : BlobRow) → stored_row (cond t (renewed deadline row) row) ≡ stored_row row
stored-renewed true deadline row = refl
stored-renewed false deadline row = refl

pub no-renewed : (t : Bool) (deadline : ℕ) (row : BlobRow) → (cond t (renewed deadline row) row).no ≡ row.no
no-renewed true deadline row = refl
no-renewed false deadline row = refl

module _ (rows : List BlobRow) where
  -- ---- other deadlines

  -- a change of rows that leaves their numbers and what is stored
  module _ (change : BlobRow → BlobRow) (same : (row : BlobRow) → stored_row (change row) ≡ stored_row row) (same_no : (row : BlobRow) → (change row).no ≡ row.no) where
    counted : (test : BlobRow → Bool) → ((row : BlobRow) → test (change row) ≡ test row) → count_by test (map change rows) ≡ count_by test rows
    counted test tells = count-map test change rows ∙ count_same (λ row. test (change row)) test tells rows

    pub digests-changed : (digest : List ℕ) → count_by (has_digest digest) (map change rows) ≡ count_by (has_digest digest) rows
    digests-changed digest = counted (has_digest digest) (λ row. ap (λ (s : Stored). same_digest s.digest digest) (same row))

    pub numbers-changed : (number : ℕ) → count_by (is_blob number) (map change rows) ≡ count_by (is_blob number) rows
    numbers-changed number = counted (is_blob number) (λ row. ap (λ (n : ℕ). eqb n number) (same_no row))

    pub above-changed : (placed : ℕ) → count_by (λ row. ltb placed row.no) (map change rows) ≡ count_by (λ row. ltb placed row.no) rows
    above-changed placed = counted (λ row. ltb placed row.no) (λ row. ap (λ (n : ℕ). ltb placed n) (same_no row))

  -- ---- a row more

  module _ (placed : ℕ) (numbered : count_by (λ row. ltb placed row.no) rows ≡ 0) (row : BlobRow) (next : row.no ≡ placed + 1) where
    pushed : (test : BlobRow → Bool) → count_by test (rows ++ row ∷ []) ≡ count_by test rows + pass test row
    pushed test = sum_by_push (pass test) rows row

    pub digests_more : list_any (has_digest row.digest) rows ≡ false → ((digest : List ℕ) → count_by (has_digest digest) rows ≤ 1) → (digest : List ℕ) → count_by (has_digest digest) (rows ++ row ∷ []) ≤ 1
    digests_more absent digests digest = by_test (same_digest row.digest digest) refl
      where
        not_there : same_digest row.digest digest ≡ true → count_by (has_digest digest) rows ≡ 0
        not_there is =
            let e : row.digest ≡ digest = (bytes_decides row.digest digest).0 is in
            count-none (has_digest digest) rows (subst (λ (d : List ℕ). list_any (has_digest d) rows ≡ false) e absent)

        by_test : (t : Bool) → same_digest row.digest digest ≡ t → count_by (has_digest digest) (rows ++ row ∷ []) ≤ 1
        by_test true is = omega (arith, pushed (has_digest digest), passed (has_digest digest) row is, not_there is)
        by_test false is = omega (arith, pushed (has_digest digest), failed (has_digest digest) row is, digests digest)

    pub numbers_more : ((number : ℕ) → count_by (is_blob number) rows ≤ 1) → (number : ℕ) → count_by (is_blob number) (rows ++ row ∷ []) ≤ 1
    numbers_more numbers number = by_test (eqb row.no number) refl
      where
        by_test : (t : Bool) → eqb row.no number ≡ t → count_by (is_blob number) (rows ++ row ∷ []) ≤ 1
        by_test true is =
            let e : row.no ≡ number = eqb-true row.no number is in
            let few = count_implied (is_blob number) (λ r. ltb placed r.no) (λ r found. let f : r.no ≡ number = eqb-true r.no number found in lt-ltb placed r.no (omega arith)) rows in
            omega (arith, pushed (is_blob number), passed (is_blob number) row is, few, numbered)
        by_test false is = omega (arith, pushed (is_blob number), failed (is_blob number) row is, numbers number)

    pub above_more : count_by (λ (r : BlobRow). ltb (placed + 1) r.no) (rows ++ row ∷ []) ≡ 0
    above_more =
        let few = count_implied (λ (r : BlobRow). ltb (placed + 1) r.no) (λ r. ltb placed r.no) (λ r found. let h = ltb-true (placed + 1) r.no found in lt-ltb placed r.no (omega arith)) rows in
        let own = failed (λ (r : BlobRow). ltb (placed + 1) r.no) row (le-ltb (placed + 1) row.no (omega arith)) in
        omega (arith, few, own, pushed (λ (r : BlobRow). ltb (placed + 1) r.no), numbered)
