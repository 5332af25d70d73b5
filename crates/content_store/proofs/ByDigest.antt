-- Names that are sorted, and what a name that joins or leaves them leaves.
use Rattle.std.proofs.Common.{◌≡◌, ◌≢◌, ℕ, zero, suc, ◌<◌, Bool, true, false, not, cond, List, [], ◌∷◌, length, get_or, take, drop, set, map, Some, None, refl, sym, ap, ◌∙◌, subst, arith, inl, inr}
use Rattle.std.specs.declared.cmp.Ordering.{Ordering}
use Rattle.std.specs.declared.cmp.Ordering.TheVariants.{Less, Greater}
use Rattle.std.specs.Ordering.{is_lt}
use Rattle.std.specs.List.{find, filter, count_by, insert, remove, All}
use Rattle.std.specs.List.Sorted.{IsStrictlySortedBy}
use Rattle.std.proofs.lemmas.Bool.{cases_lt}
use Rattle.std.proofs.lemmas.List.{get_or_default}
use Rattle.std.proofs.lemmas.List.Elements.{All-from_recursion, recursion_from_All, All-append, All-cons, All-take, All-drop}
use Rattle.std.proofs.lemmas.List.Sums.{sum_by-cons}
use Rattle.std.proofs.lemmas.Map.Keys.{sorted_head, sorted_tail}
use Rattle.blob_rows.specs.SameItems.{SameItems}
use Rattle.blob_rows.proofs.SameItems.{pass}
use Rattle.blob_rows.specs.Digests.{same_digest, digest_cmp}
use Rattle.blob_rows.proofs.Texts.{same_text, other_text, less_other, greater_other, greater_less, less_not}
use Rattle.content_store.specs.Contents.{Content, with_content, filled_with}
use Rattle.content_store.specs.Slots.{BelongsAt}

abbrev pub name_of : Content → List ℕ
name_of content = content.digest

-- ---- where a name stands

module _ {X : Type 0} (key : X → List ℕ) where
  pub find_none : (name : List ℕ) (xs : List X) → ((k : ℕ) → k < length (map key xs) → get_or (map key xs) k [] ≢ name) → find (λ x. same_digest (key x) name) xs ≡ None
  find_none name [] none = refl
  find_none name (x ∷ xs) none =
      ap (λ (t : Bool). cond t (Some x) (find (λ y. same_digest (key y) name) xs)) (other_text (key x) name (none 0 (omega arith)))
      ∙ find_none name xs (λ k low. none (suc k) (omega arith))

  first_less : (x : X) (xs : List X) → IsStrictlySortedBy digest_cmp (map key (x ∷ xs)) → (k : ℕ) → k < length (map key xs) → digest_cmp (key x) (get_or (map key xs) k []) ≡ Less
  first_less x xs sorted k low = All-from_recursion (λ y. digest_cmp (key x) y ≡ Less) (map key xs) (sorted_head digest_cmp (key x) (map key xs) sorted) k [] low

  pub find_at : (name : List ℕ) (xs : List X) (k : ℕ) (d : X) → IsStrictlySortedBy digest_cmp (map key xs) → k < length (map key xs) → get_or (map key xs) k [] ≡ name →
      find (λ x. same_digest (key x) name) xs ≡ Some (get_or xs k d)
  find_at name [] k d sorted low is = absurd (omega arith)
  find_at name (x ∷ xs) zero d sorted low is = ap (λ (t : Bool). cond t (Some x) (find (λ y. same_digest (key y) name) xs)) (same_text (key x) name is)
  find_at name (x ∷ xs) (suc k) d sorted low is =
      let less : digest_cmp (key x) name ≡ Less = subst (λ (t : List ℕ). digest_cmp (key x) t ≡ Less) is (first_less x xs sorted k (omega arith)) in
      ap (λ (t : Bool). cond t (Some x) (find (λ y. same_digest (key y) name) xs)) (other_text (key x) name (less_other (key x) name less))
      ∙ find_at name xs k d (sorted_tail digest_cmp (key x) (map key xs) sorted) (omega arith) is

  pub belongs_find : (name : List ℕ) (xs : List X) (i : ℕ) → BelongsAt (map key xs) name i → find (λ x. same_digest (key x) name) xs ≡ None
  belongs_find name xs i belongs = find_none name xs (λ k low.
      elim (cases_lt k i) [
        | inl before ↦ less_other (get_or (map key xs) k []) name (belongs.below k before)
        | inr behind ↦ greater_other (get_or (map key xs) k []) name (belongs.above k behind low)
      ])

  -- ---- a name less

  skip_second : (x y : X) (ys : List X) → IsStrictlySortedBy digest_cmp (map key (x ∷ y ∷ ys)) → IsStrictlySortedBy digest_cmp (map key (x ∷ ys))
  unfolding IsStrictlySortedBy
  skip_second x y ys sorted = (sorted.0.1, sorted.1.1)

  keep_all : (name : List ℕ) (x : X) (xs : List X) → IsStrictlySortedBy digest_cmp (map key (x ∷ xs)) → key x ≡ name → filter (λ y. not (same_digest (key y) name)) xs ≡ xs
  keep_all name x [] sorted is = refl
  keep_all name x (y ∷ ys) sorted is =
      let less : digest_cmp (key x) (key y) ≡ Less = first_less x (y ∷ ys) sorted 0 (omega arith) in
      let other : key y ≢ name = λ same_name. less_other (key x) (key y) less (is ∙ sym same_name) in
      ap (λ (t : Bool). cond (not t) (y ∷ filter (λ z. not (same_digest (key z) name)) ys) (filter (λ z. not (same_digest (key z) name)) ys)) (other_text (key y) name other)
      ∙ ap (λ (l : List X). y ∷ l) (keep_all name x ys (skip_second x y ys sorted) is)

  pub remove_named : (name : List ℕ) (xs : List X) (i : ℕ) → IsStrictlySortedBy digest_cmp (map key xs) → i < length (map key xs) → get_or (map key xs) i [] ≡ name →
      remove xs i ≡ filter (λ x. not (same_digest (key x) name)) xs
  remove_named name [] i sorted low is = absurd (omega arith)
  remove_named name (x ∷ xs) zero sorted low is =
      sym (ap (λ (t : Bool). cond (not t) (x ∷ filter (λ y. not (same_digest (key y) name)) xs) (filter (λ y. not (same_digest (key y) name)) xs)) (same_text (key x) name is) ∙ keep_all name x xs sorted is)
  remove_named name (x ∷ xs) (suc i) sorted low is =
      let less : digest_cmp (key x) name ≡ Less = subst (λ (t : List ℕ). digest_cmp (key x) t ≡ Less) is (first_less x xs sorted i (omega arith)) in
      ap (λ (l : List X). x ∷ l) (remove_named name xs i (sorted_tail digest_cmp (key x) (map key xs) sorted) (omega arith) is)
      ∙ sym (ap (λ (t : Bool). cond (not t) (x ∷ filter (λ y. not (same_digest (key y) name)) xs) (filter (λ y. not (same_digest (key y) name)) xs)) (other_text (key x) name (less_other (key x) name less)))

-- ---- a name more

module _ (name : List ℕ) where
  all_less : (keys : List (List ℕ)) → ((k : ℕ) → k < length keys → digest_cmp (get_or keys k []) name ≡ Greater) → All (λ y. digest_cmp name y ≡ Less) keys
  all_less keys above = λ k d low. greater_less (get_or keys k d) name (subst (λ (t : List ℕ). digest_cmp t name ≡ Greater) (get_or_default keys k [] d low) (above k low))

  pub insert-sorted : (keys : List (List ℕ)) (i : ℕ) → IsStrictlySortedBy digest_cmp keys → BelongsAt keys name i → IsStrictlySortedBy digest_cmp (insert keys i name)
  unfolding IsStrictlySortedBy
  insert-sorted keys zero sorted belongs = (recursion_from_All (λ y. digest_cmp name y ≡ Less) keys (all_less keys (λ k low. belongs.above k (omega arith) low)), sorted)
  insert-sorted [] (suc i) sorted belongs = absurd (omega (arith, belongs.within))
  insert-sorted (key ∷ keys) (suc i) sorted belongs =
      let rest : BelongsAt keys name i = record {
        within = omega (arith, belongs.within);
        below = λ k low. belongs.below (suc k) (omega arith);
        above = λ k high low. belongs.above (suc k) (omega arith) (omega arith);
      } in
      let all = All-from_recursion (λ y. digest_cmp key y ≡ Less) keys sorted.0 in
      let less : digest_cmp key name ≡ Less = belongs.below 0 (omega arith) in (
        recursion_from_All (λ y. digest_cmp key y ≡ Less) (insert keys i name)
            (All-append (λ y. digest_cmp key y ≡ Less) (take i keys) (name ∷ drop i keys)
            (All-take (λ y. digest_cmp key y ≡ Less) i keys all)
            (All-cons (λ y. digest_cmp key y ≡ Less) name (drop i keys) less (All-drop (λ y. digest_cmp key y ≡ Less) i keys all))),
        insert-sorted keys i sorted.1 rest,
      )

-- a content that belongs at a place is inserted there
pub with_content-is : (held : List Content) (i : ℕ) (content : Content) → BelongsAt (map name_of held) content.digest i → insert held i content ≡ with_content content held
with_content-is [] zero content belongs = refl
with_content-is (first ∷ others) zero content belongs =
    let less : digest_cmp content.digest first.digest ≡ Less = greater_less first.digest content.digest (belongs.above 0 (omega arith) (omega arith)) in
    sym (ap (λ (o : Ordering). cond (is_lt o) (content ∷ first ∷ others) (first ∷ with_content content others)) less)
with_content-is [] (suc i) content belongs = absurd (omega (arith, belongs.within))
with_content-is (first ∷ others) (suc i) content belongs =
    let rest : BelongsAt (map name_of others) content.digest i = record {
      within = omega (arith, belongs.within);
      below = λ k low. belongs.below (suc k) (omega arith);
      above = λ k high low. belongs.above (suc k) (omega arith) (omega arith);
    } in
    let less : digest_cmp first.digest content.digest ≡ Less = belongs.below 0 (omega arith) in
    ap (λ (l : List Content). first ∷ l) (with_content-is others i content rest)
    ∙ sym (ap (λ (t : Bool). cond t (content ∷ first ∷ others) (first ∷ with_content content others)) (less_not first.digest content.digest less))

pub with_content-same : (content : Content) (held : List Content) → SameItems (with_content content held) (content ∷ held)
with_content-same content [] test = refl
with_content-same content (first ∷ others) test = by_test (is_lt (digest_cmp content.digest first.digest)) (with_content-same content others test)
  where
    by_test : (t : Bool) → count_by test (with_content content others) ≡ count_by test (content ∷ others) →
        count_by test (cond t (content ∷ first ∷ others) (first ∷ with_content content others)) ≡ count_by test (content ∷ first ∷ others)
    by_test true rest = refl
    by_test false rest =
        omega (
          arith,
          rest,
          sum_by-cons (pass test) first (with_content content others),
          sum_by-cons (pass test) content (first ∷ others),
          sum_by-cons (pass test) first others,
          sum_by-cons (pass test) content others,
        )

-- ---- bytes for a name

none_filled : (name bytes : List ℕ) (x : Content) (xs : List Content) → IsStrictlySortedBy digest_cmp (map name_of (x ∷ xs)) → x.digest ≡ name → map (filled_with name bytes) xs ≡ xs
none_filled name bytes x [] sorted is = refl
none_filled name bytes x (y ∷ ys) sorted is =
    let less : digest_cmp x.digest y.digest ≡ Less = first_less name_of x (y ∷ ys) sorted 0 (omega arith) in
    let other : y.digest ≢ name = λ same_name. less_other x.digest y.digest less (is ∙ sym same_name) in
    ap (λ (t : Bool). cond t (record y { bytes = Some bytes }) y ∷ map (filled_with name bytes) ys) (other_text y.digest name other)
    ∙ ap (λ (l : List Content). y ∷ l) (none_filled name bytes x ys (skip_second name_of x y ys sorted) is)

pub filled-is : (name bytes : List ℕ) (held : List Content) (i : ℕ) (d : Content) → IsStrictlySortedBy digest_cmp (map name_of held) → i < length (map name_of held) → get_or (map name_of held) i [] ≡ name →
    set held i (record (get_or held i d) { bytes = Some bytes }) ≡ map (filled_with name bytes) held
filled-is name bytes [] i d sorted low is = absurd (omega arith)
filled-is name bytes (x ∷ xs) zero d sorted low is =
    sym (ap (λ (t : Bool). cond t (record x { bytes = Some bytes }) x ∷ map (filled_with name bytes) xs) (same_text x.digest name is)
    ∙ ap (λ (l : List Content). record x { bytes = Some bytes } ∷ l) (none_filled name bytes x xs sorted is))
filled-is name bytes (x ∷ xs) (suc i) d sorted low is =
    let less : digest_cmp x.digest name ≡ Less = subst (λ (t : List ℕ). digest_cmp x.digest t ≡ Less) is (first_less name_of x xs sorted i (omega arith)) in
    ap (λ (l : List Content). x ∷ l) (filled-is name bytes xs i d (sorted_tail digest_cmp x.digest (map name_of xs) sorted) (omega arith) is)
    ∙ sym (ap (λ (t : Bool). cond t (record x { bytes = Some bytes }) x ∷ map (filled_with name bytes) xs) (other_text x.digest name (less_other x.digest name less)))
