-- Digests that stand once, and blobs of which one at most has a digest.
use Rattle.std.proofs.Common.{◌≡◌, ◌↔◌, ℕ, ◌≤◌, Bool, true, false, List, [], ◌∷◌, map, count_by, All, refl, sym, ap, ◌∙◌, subst, arith}
use Rattle.std.specs.Cmp.Lexicographic.{nat_list_cmp_total, bytes_decides}
use Rattle.std.specs.Ordering.{is_eq}
use Rattle.std.specs.declared.cmp.Ordering.{Ordering}
use Rattle.std.specs.declared.cmp.Ordering.TheVariants.{Less, Equal, Greater}
use Rattle.std.proofs.lemmas.Cmp.{tied_itself}
use Rattle.std.proofs.lemmas.List.Kept.{AllPairs-cons}
use Rattle.dimensions.proofs.Counting.{count-pass, count-skip, count-cons}
use Rattle.blob_rows.specs.declared.blob_row.BlobRow.{BlobRow}
use Rattle.blob_rows.specs.BlobRows.{has_digest}
use Rattle.blob_rows.specs.Digests.{digest_cmp}
use Rattle.blob_rows.proofs.Texts.{equal_text, same_text, other_text}
use Rattle.pool_laws.proofs.Lists.{Among, here, later, each, all, each_map, among_map, counted}
use Rattle.base_checks.specs.Keys.{Differ, AreDistinct}
use Rattle.base_checks.specs.Rows.{digest_of, HaveOwnDigests}
use Rattle.base_checks.proofs.RowKeys.{pairs_head, pairs_tail}

-- digests that differ are not the same
apart_of : (a b : List ℕ) → Differ digest_cmp a b → a ≡ b → ⊥
apart_of a b e same =
    let own = ap is_eq (tied_itself nat_list_cmp_total b) in
    let other : is_eq (digest_cmp b b) ≡ false = subst (λ (t : List ℕ). is_eq (digest_cmp t b) ≡ false) same e in
    cc (own, other)

-- and the other way round
differ_of : (a b : List ℕ) → (a ≡ b → ⊥) → Differ digest_cmp a b
differ_of a b apart = by_order (digest_cmp a b) refl
  where
    by_order : (r : Ordering) → digest_cmp a b ≡ r → is_eq r ≡ false
    by_order Less e = refl
    by_order Equal e = absurd (apart (equal_text a b e))
    by_order Greater e = refl

-- where no blob has the digest, none is counted
none_counted : (digest : List ℕ) (blobs : List BlobRow) → ((y : BlobRow) → Among y blobs → has_digest digest y ≡ false) → count_by (has_digest digest) blobs ≡ 0
none_counted digest [] none = refl
none_counted digest (y ∷ blobs) none = count-skip (has_digest digest) y blobs (none y here) ∙ none_counted digest blobs (λ z a. none z (later a))

-- what differs from the digest of each blob
differs_from : (digest : List ℕ) (blobs : List BlobRow) → All (Differ digest_cmp digest) (map digest_of blobs) → (y : BlobRow) → Among y blobs → Differ digest_cmp digest y.digest
differs_from digest blobs apart y a = each (Differ digest_cmp digest) (map digest_of blobs) apart y.digest (among_map digest_of blobs y a)

few_of_distinct : (blobs : List BlobRow) → AreDistinct digest_cmp (map digest_of blobs) → (digest : List ℕ) → count_by (has_digest digest) blobs ≤ 1
few_of_distinct [] distinct digest = omega arith
few_of_distinct (x ∷ blobs) distinct digest = by_test (has_digest digest x) refl (few_of_distinct blobs (pairs_tail (Differ digest_cmp) x.digest (map digest_of blobs) distinct) digest)
  where
    others : x.digest ≡ digest → (y : BlobRow) → Among y blobs → has_digest digest y ≡ false
    others same y a =
        let apart = apart_of x.digest y.digest (differs_from x.digest blobs (pairs_head (Differ digest_cmp) x.digest (map digest_of blobs) distinct) y a) in
        other_text y.digest digest (λ e. apart (same ∙ sym e))

    by_test : (t : Bool) → has_digest digest x ≡ t → count_by (has_digest digest) blobs ≤ 1 → count_by (has_digest digest) (x ∷ blobs) ≤ 1
    by_test true t rest =
        (let none = none_counted digest blobs (others ((bytes_decides x.digest digest).0 t)) in
        let one = count-pass (has_digest digest) x blobs t in
        omega (arith, one, none))
    by_test false t rest = (let same = count-skip (has_digest digest) x blobs t in omega (arith, same, rest))

distinct_of_few : (blobs : List BlobRow) → ((digest : List ℕ) → count_by (has_digest digest) blobs ≤ 1) → AreDistinct digest_cmp (map digest_of blobs)
distinct_of_few [] few = λ i j d less low. absurd (omega (arith, low))
distinct_of_few (x ∷ blobs) few =
    AllPairs-cons (Differ digest_cmp) x.digest (map digest_of blobs)
    (all (Differ digest_cmp x.digest) (map digest_of blobs) (each_map (Differ digest_cmp x.digest) digest_of blobs (λ y a. differ_of x.digest y.digest (λ e. twice y a e))))
    (distinct_of_few blobs (λ digest. let most = few digest in let more = count-cons (has_digest digest) x blobs in omega (arith, most, more)))
  where
    twice : (y : BlobRow) → Among y blobs → x.digest ≡ y.digest → ⊥
    twice y a e =
        let one = count-pass (has_digest x.digest) x blobs (same_text x.digest x.digest refl) in
        let more = counted (has_digest x.digest) blobs y a (same_text y.digest x.digest (sym e)) in
        let most = few x.digest in
        omega (arith, one, more, most)

-- digests stand once exactly where one blob at most has each
pub digests_stand_once : (blobs : List BlobRow) → (AreDistinct digest_cmp (map digest_of blobs) ↔ HaveOwnDigests blobs)
digests_stand_once blobs = (few_of_distinct blobs, distinct_of_few blobs)
