-- What is sorted by a strict order rises, where of each two items one is below the other.
use Rattle.std.proofs.Common.{◌≡◌, ◌⊎◌, inl, inr, zero, suc, List, [], ◌∷◌, Bool, true, false, refl, arith}
use Rattle.std.specs.Prelude.{if◌then◌else◌}
use Rattle.std.specs.List.{All, AllPairs}
use Rattle.std.specs.Cmp.{IsStrictWeakOrder}
use Rattle.std.proofs.lemmas.List.Elements.{All-nil, All-cons, All-head, All-tail, All-weaker}
use Rattle.std.proofs.lemmas.List.Kept.{AllPairs-cons}
use Rattle.std.proofs.lemmas.List.Sorted.{All-permutation}
use Rattle.dimensions.specs.Order.{insert_by, sorted_by}
use Rattle.dimensions.proofs.Sorting.{IsPermutation-sorted_by}

pub AllPairs-head : {X : Type 0} (R : X → X → Type 0) (x : X) (xs : List X) → AllPairs R (x ∷ xs) → All (R x) xs
AllPairs-head R x xs all k d low = all zero (suc k) d (omega arith) (omega arith)

pub AllPairs-tail : {X : Type 0} (R : X → X → Type 0) (x : X) (xs : List X) → AllPairs R (x ∷ xs) → AllPairs R xs
AllPairs-tail R x xs all i j d less low = all (suc i) (suc j) d (omega arith) (omega arith)

All-insert_by : {X : Type 0} (below : X → X → Bool) (P : X → Type 0) (item : X) (items : List X) → P item → All P items → All P (insert_by below item items)
All-insert_by below P item [] here all = All-cons P item [] here all
All-insert_by below P item (first ∷ items) here all =
    let rest = All-insert_by below P item items here (All-tail P first items all) in
    elim (below item first) as (λ (t : Bool). All P (if t then item ∷ first ∷ items else first ∷ insert_by below item items)) [
      | true ↦ All-cons P item (first ∷ items) here all
      | false ↦ All-cons P first (insert_by below item items) (All-head P first items all) rest
    ]

-- one of the two is below the other
abbrev pub Differ : {X : Type 0} → (X → X → Bool) → X → X → Type 0
Differ below a b = (below a b ≡ true) ⊎ (below b a ≡ true)

-- each item is below all later ones
abbrev pub Rises : {X : Type 0} → (X → X → Bool) → List X → Type 0
Rises below items = AllPairs (λ a b. below a b ≡ true) items

module _ {X : Type 0} (below : X → X → Bool) (order : IsStrictWeakOrder below) where
  pub below-trans : (a b c : X) → below a b ≡ true → below b c ≡ true → below a c ≡ true
  below-trans a b c h k = by_test (below a c) refl
    where
      by_test : (t : Bool) → below a c ≡ t → t ≡ true
      by_test true e = refl
      by_test false e = absurd (let f = order.chain a c b e (order.one_way b c k) in cc)

  pub below-itself : (a : X) → below a a ≡ false
  below-itself a = by_test (below a a) refl
    where
      by_test : (t : Bool) → below a a ≡ t → t ≡ false
      by_test true e = absurd (let f = order.one_way a a e in cc)
      by_test false e = refl

  Rises-insert_by : (item : X) (items : List X) → All (Differ below item) items → Rises below items → Rises below (insert_by below item items)
  Rises-insert_by item [] differ rises = AllPairs-cons (λ a b. below a b ≡ true) item [] (All-nil (λ b. below item b ≡ true)) rises
  Rises-insert_by item (first ∷ items) differ rises =
      by_test (below item first) refl (All-head (Differ below item) first items differ)
      (AllPairs-head (λ a b. below a b ≡ true) first items rises)
      (Rises-insert_by item items (All-tail (Differ below item) first items differ) (AllPairs-tail (λ a b. below a b ≡ true) first items rises))
    where
      by_test : (t : Bool) → below item first ≡ t → Differ below item first → All (λ b. below first b ≡ true) items → Rises below (insert_by below item items) →
          Rises below (if t then item ∷ first ∷ items else first ∷ insert_by below item items)
      by_test true h differ above rest =
          AllPairs-cons (λ a b. below a b ≡ true) item (first ∷ items)
          (All-cons (λ b. below item b ≡ true) first items h (All-weaker (λ b. below first b ≡ true) (λ b. below item b ≡ true) (λ b k. below-trans item first b h k) items above))
          rises
      by_test false h (inl low) above rest = absurd (cc)
      by_test false h (inr high) above rest =
          AllPairs-cons (λ a b. below a b ≡ true) first (insert_by below item items) (All-insert_by below (λ b. below first b ≡ true) item items high above) rest

  pub Rises-sorted_by : (items : List X) → AllPairs (Differ below) items → Rises below (sorted_by below items)
  Rises-sorted_by [] differ = λ i j d less low. absurd (omega arith)
  Rises-sorted_by (item ∷ items) differ =
      Rises-insert_by item (sorted_by below items)
      (All-permutation (Differ below item) items (sorted_by below items) (IsPermutation-sorted_by below items) (AllPairs-head (Differ below) item items differ))
      (Rises-sorted_by items (AllPairs-tail (Differ below) item items differ))
