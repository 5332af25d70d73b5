-- A search among sorted digests tells whether a digest is there.
use Rattle.std.proofs.Common.{◌≡◌, ℕ, ◌<◌, Bool, true, false, ◌||◌, List, [], ◌∷◌, map, length, get_or, IsPermutation, IsSorted, inl, inr, refl, sym, ap, ◌∙◌, arith}
use Rattle.std.specs.Prelude.{Result, Ok, Err, is_ok}
use Rattle.std.specs.List.{list_any, HoldsAt, Any, Contains}
use Rattle.std.specs.List.Sorted.{IsSearchInRange, IsBinarySearchResult, IsPartitionPoint}
use Rattle.std.specs.Cmp.Lexicographic.{nat_list_cmp_total}
use Rattle.std.specs.declared.cmp.Ordering.{Ordering}
use Rattle.std.specs.declared.cmp.Ordering.TheVariants.{Less, Equal, Greater}
use Rattle.std.proofs.lemmas.Bool.{cases_lt, false_from_ne_true}
use Rattle.std.proofs.lemmas.List.Folds.{list_any_none, list_any_at, Any-from_list_any}
use Rattle.std.proofs.lemmas.List.Sorted.{IsPermutation-sym, Contains-permutation, searchable_from_sorted}
use Rattle.blob_rows.specs.declared.blob_row.BlobRow.{BlobRow}
use Rattle.blob_rows.specs.BlobRows.{has_digest}
use Rattle.blob_rows.specs.Digests.{digest_cmp}
use Rattle.blob_rows.proofs.Counts.{is_some-find}
use Rattle.blob_rows.proofs.Texts.{equal_text, same_text, other_text, less_other, greater_other}
use Rattle.base_checks.specs.Rows.{digest_of}
use Rattle.base_checks.specs.Needs.{is_digest, is_held, AreDigestsOf}

-- ---- a search

module _ (held : List (List ℕ)) (digest : List ℕ) where
  abbrev order : List ℕ → Ordering
  order other = digest_cmp other digest

  found_there : (place : ℕ) → place < length held → HoldsAt (λ (other : List ℕ). order other ≡ Equal) held place → is_held held digest ≡ true
  found_there place low there =
      list_any_at (is_digest digest) held place digest low (same_text (get_or held place digest) digest (equal_text (get_or held place digest) digest (there digest)))

  not_there : (place : ℕ) → IsPartitionPoint (λ (other : List ℕ). order other ≡ Less) (λ (other : List ℕ). order other ≡ Greater) held place → is_held held digest ≡ false
  not_there place point = list_any_none (is_digest digest) held (λ k d low. other_text (get_or held k d) digest (differs k d low))
    where
      differs : (k : ℕ) (d : List ℕ) → k < length held → get_or held k d ≡ digest → ⊥
      differs k d low =
          elim (cases_lt k place) [
            | inl below ↦ less_other (get_or held k d) digest (point.0 k d (omega arith) below)
            | inr above ↦ greater_other (get_or held k d) digest (point.1 k d above low)
          ]

  pub told_by_search : (r : Result ℕ ℕ) → IsSorted digest_cmp held → IsSearchInRange r (length held) → IsBinarySearchResult order held r → is_ok r ≡ is_held held digest
  told_by_search (Ok place) sorted low there = sym (found_there place low there)
  told_by_search (Err place) sorted low point =
      sym (not_there place (point (searchable_from_sorted nat_list_cmp_total (λ (other : List ℕ). other) held digest sorted)))

-- ---- the digests of blobs, in another order

held_map : (digest : List ℕ) (blobs : List BlobRow) → is_held (map digest_of blobs) digest ≡ list_any (has_digest digest) blobs
held_map digest [] = refl
held_map digest (x ∷ blobs) = ap (λ (b : Bool). has_digest digest x || b) (held_map digest blobs)

held_moved : (digest : List ℕ) (xs ys : List (List ℕ)) → IsPermutation xs ys → is_held xs digest ≡ true → is_held ys digest ≡ true
held_moved digest xs ys moved e =
    let found : Any (λ (x : List ℕ). is_digest digest x ≡ true) xs = Any-from_list_any (is_digest digest) xs e in
    let there : Contains ys found.1 = Contains-permutation xs ys found.1 moved (found.0, found.2, found.3) in
    list_any_at (is_digest digest) ys there.0 found.1 there.1 (ap (is_digest digest) there.2 ∙ found.4)

same_both : (a b : Bool) → (a ≡ true → b ≡ true) → (b ≡ true → a ≡ true) → a ≡ b
same_both true b there back = sym (there refl)
same_both false b there back = sym (false_from_ne_true b (λ t. let no = back t in cc (no)))

pub digests_moved : (blobs : List BlobRow) (held : List (List ℕ)) → IsPermutation (map digest_of blobs) held → AreDigestsOf blobs held
digests_moved blobs held moved = λ digest.
    same_both (is_held held digest) (is_held (map digest_of blobs) digest)
    (held_moved digest held (map digest_of blobs) (IsPermutation-sym (map digest_of blobs) held moved))
    (held_moved digest (map digest_of blobs) held moved)
    ∙ held_map digest blobs
    ∙ sym (is_some-find (has_digest digest) blobs)
