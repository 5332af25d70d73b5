-- The places of a list stay told apart, and what that says of its items.
use Rattle.std.proofs.Common.{◌≡◌, ◌≢◌, ℕ, ◌+◌, ◌<◌, ◌≤◌, Bool, cond, List, [], ◌∷◌, ◌++◌, length, get_or, set, nat_eq, refl, sym, ap, ◌∙◌, subst, arith, get_or-set_same, take_at, inl, inr}
use Rattle.std.specs.List.{All, insert, remove, count_by}
use Rattle.std.proofs.lemmas.Bool.{eq-eqb, ne_eqb, cases_eq}
use Rattle.std.proofs.lemmas.List.{length-set, get_or_push, length_push, set-get_or}
use Rattle.std.proofs.lemmas.List.Elements.{All-nil, All-take, All-head, All-tail, All-push, All-weaker}
use Rattle.std.proofs.lemmas.List.Edits.{length-insert, length-remove}
use Rattle.std.proofs.lemmas.List.Sums.{sum_by-cons, sum_by-insert, sum_by-remove, sum_by_push}
use Rattle.placed_list.specs.Places.{items_at, ArePlaces}
use Rattle.placed_list.proofs.Listing.{All-insert, All-remove, insert-remove, items_at-other, items_at-push, items_at-insert, items_at-remove, length-items_at}

-- one for the place itself
abbrev is_at : ℕ → ℕ → ℕ
is_at p q = cond (nat_eq p q) 1 0

counts_itself : (p : ℕ) → is_at p p ≡ 1
counts_itself p = ap (λ (t : Bool). cond t 1 0) (eq-eqb p p refl)

-- a place that is not there is none of the places
none_is : (p : ℕ) (places : List ℕ) → count_by (nat_eq p) places ≡ 0 → All (λ q. q ≢ p) places
none_is p places none = λ k d low same.
    let one : is_at p (get_or places k d) ≡ 1 = ap (is_at p) same ∙ counts_itself p in
    let parts = sum_by-remove (is_at p) places k d low in absurd (omega (arith, one, parts, none))

-- a place past all places is not there
past_all : (p : ℕ) (places : List ℕ) → All (λ q. q < p) places → count_by (nat_eq p) places ≡ 0
past_all p [] low = refl
past_all p (q ∷ places) low =
    let under : q < p = All-head (λ r. r < p) q places low in
    let other : is_at p q ≡ 0 = ap (λ (t : Bool). cond t 1 0) (ne_eqb p q (λ same. absurd (omega (arith, same, under)))) in
    omega (arith, sum_by-cons (is_at p) q places, other, past_all p places (All-tail (λ r. r < p) q places low))

module _ (count : ℕ) (order free : List ℕ) (are : ArePlaces count order free) where
  -- the place of an item is given up
  pub given_up : (i p : ℕ) → i < length order → get_or order i p ≡ p → ArePlaces count (remove order i) (free ++ p ∷ [])
  given_up i p low is = record {
    in_order = All-remove (λ q. q < count) order i are.in_order;
    are_free = All-push (λ q. q < count) free p are.are_free (subst (λ (q : ℕ). q < count) is (are.in_order i p low));
    once = λ q. omega (arith, are.once q, sum_by-remove (is_at q) order i p low, ap (is_at q) is, sum_by_push (is_at q) free p);
    all = omega (arith, are.all, length-remove order i low, length_push free p);
  }

  -- all places but one, which has an item
  pub others_apart : (i p : ℕ) → i < length order → get_or order i p ≡ p → All (λ q. q ≢ p) (remove order i)
  others_apart i p low is = none_is p (remove order i) (omega (arith, are.once p, sum_by-remove (is_at p) order i p low, ap (is_at p) is, counts_itself p))

-- a free place is used again
module _ (count : ℕ) (order free : List ℕ) (p : ℕ) (are : ArePlaces count order (free ++ p ∷ [])) where
  pub free_low : p < count
  free_low = subst (λ (q : ℕ). q < count) (get_or_push free p p (length free) refl) (are.are_free (length free) p (omega (arith, length_push free p)))

  pub free_apart : All (λ q. q ≢ p) order
  free_apart = none_is p order (omega (arith, are.once p, sum_by_push (is_at p) free p, counts_itself p))

  pub used_again : (i : ℕ) → i ≤ length order → ArePlaces count (insert order i p) free
  used_again i low = record {
    in_order = All-insert (λ q. q < count) order i p free_low are.in_order;
    are_free = λ k d under. front k d under;
    once = λ q. omega (arith, are.once q, sum_by-insert (is_at q) order i p, sum_by_push (is_at q) free p);
    all = omega (arith, are.all, length-insert order i p low, length_push free p);
  }
    where
      front : All (λ q. q < count) free
      front = subst (λ (l : List ℕ). All (λ q. q < count) l) (take_at free (p ∷ []) (length free) refl) (All-take (λ q. q < count) (length free) (free ++ p ∷ []) are.are_free)

-- a place is added behind all others
pub added : (count : ℕ) (order : List ℕ) (i : ℕ) → ArePlaces count order [] → i ≤ length order → ArePlaces (count + 1) (insert order i count) []
added count order i are low = record {
  in_order = All-insert (λ q. q < count + 1) order i count (omega arith) (All-weaker (λ q. q < count) (λ q. q < count + 1) (λ q under. omega (arith, under)) order are.in_order);
  are_free = All-nil (λ q. q < count + 1);
  once = once;
  all = omega (arith, are.all, length-insert order i count low);
}
  where
    once : (q : ℕ) → count_by (nat_eq q) (insert order i count) + 0 ≤ 1
    once q = elim (cases_eq q count) [
      | inl same ↦ subst (λ (r : ℕ). count_by (nat_eq r) (insert order i count) + 0 ≤ 1) (sym same)
          (omega (arith, sum_by-insert (is_at count) order i count, counts_itself count, past_all count order are.in_order))
      | inr other ↦
          let none : is_at q count ≡ 0 = ap (λ (t : Bool). cond t 1 0) (ne_eqb q count other) in
          omega (arith, are.once q, sum_by-insert (is_at q) order i count, none)
    ]

-- ---- the items

module _ {T : Type 0} (items : List T) (order : List ℕ) where
  pub items-used_again : (free : List ℕ) (p i : ℕ) (item : T) → ArePlaces (length items) order (free ++ p ∷ []) →
      items_at (set items p item) (insert order i p) ≡ insert (items_at items order) i item
  items-used_again free p i item are =
      let long = length-set items p item in
      let low = free_low (length items) order free p are in
      items_at-insert (set items p item) order i p item (subst (λ (n : ℕ). All (λ q. q < n) order) (sym long) are.in_order) (omega (arith, long, low)) (get_or-set_same items p item item low)
      ∙ ap (λ (l : List T). insert l i item) (items_at-other items order p item (free_apart (length items) order free p are))

  pub items-added : (i : ℕ) (item : T) → ArePlaces (length items) order [] → items_at (items ++ item ∷ []) (insert order i (length items)) ≡ insert (items_at items order) i item
  items-added i item are =
      let long = length_push items item in
      items_at-insert (items ++ item ∷ []) order i (length items) item
      (All-weaker (λ q. q < length items) (λ q. q < length (items ++ item ∷ [])) (λ q under. omega (arith, under, long)) order are.in_order) (omega (arith, long)) (get_or_push items item item (length items) refl)
      ∙ ap (λ (l : List T). insert l i item) (items_at-push items order item are.in_order)

  pub items-set : (free : List ℕ) (i p : ℕ) (item : T) → ArePlaces (length items) order free → i < length order → get_or order i p ≡ p →
      items_at (set items p item) order ≡ set (items_at items order) i item
  items-set free i p item are low is =
      let long = length-set items p item in
      let under : p < length items = subst (λ (q : ℕ). q < length items) is (are.in_order i p low) in
      let rest = remove order i in
      let rest_low = All-remove (λ q. q < length items) order i are.in_order in
      let same : order ≡ insert rest i p = sym (insert-remove order i p low ∙ ap (λ (q : ℕ). set order i q) (sym is) ∙ set-get_or order i p) in
      ap (λ (l : List ℕ). items_at (set items p item) l) same
      ∙ items_at-insert (set items p item) rest i p item (subst (λ (n : ℕ). All (λ q. q < n) rest) (sym long) rest_low) (omega (arith, long, under)) (get_or-set_same items p item item under)
      ∙ ap (λ (l : List T). insert l i item) (items_at-other items rest p item (others_apart (length items) order free are i p low is) ∙ items_at-remove items order i item are.in_order)
      ∙ insert-remove (items_at items order) i item (omega (arith, low, length-items_at items order are.in_order))
