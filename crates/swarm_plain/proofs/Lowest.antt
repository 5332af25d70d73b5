-- Of the sorted items that pass a test, the first is the lowest.
use Rattle.std.proofs.Common.{◌≡◌, List, [], ◌∷◌, Bool, true, false, cond, Option, Some, None, refl, sym, ap, ◌∙◌}
use Rattle.std.specs.Prelude.{if◌then◌else◌}
use Rattle.std.specs.List.{filter, fold, slice_get}
use Rattle.std.specs.Cmp.{IsStrictWeakOrder}
use Rattle.dimensions.specs.Order.{insert_by, sorted_by}
use Rattle.pool_queries.proofs.Sorted.{below-trans}
use Rattle.swarm_plain.specs.Lowest.{lower}

module _ {X : Type 0} (below : X → X → Bool) (order : IsStrictWeakOrder below) where
  -- the lower of two items that may be there
  abbrev lower_of : Option X → Option X → Option X
  lower_of lowest None = lowest
  lower_of lowest (Some item) = lower below lowest item

  lower_of-none : (o : Option X) → lower_of None o ≡ o
  lower_of-none None = refl
  lower_of-none (Some x) = refl

  lower_of-three : (a x y : X) → lower_of (lower below (Some a) x) (Some y) ≡ lower_of (Some a) (lower below (Some x) y)
  lower_of-three a x y = by_cases (below a x) (below x y) refl refl
    where
      by_cases : (s t : Bool) → below a x ≡ s → below x y ≡ t →
          lower below (if s then Some a else Some x) y ≡ lower_of (Some a) (if t then Some x else Some y)
      by_cases true true h k = rw (below-trans below order a x y h k, h) refl
      by_cases true false h k = refl
      by_cases false true h k = rw (k, h) refl
      by_cases false false h k = rw (k, order.chain a x y h k) refl

  -- of three, the first two may be compared first, or the last two
  lower_of-assoc : (lowest : Option X) (x : X) (o : Option X) → lower_of (lower below lowest x) o ≡ lower_of lowest (lower_of (Some x) o)
  lower_of-assoc lowest x None = refl
  lower_of-assoc None x (Some y) = sym (lower_of-none (lower below (Some x) y))
  lower_of-assoc (Some a) x (Some y) = lower_of-three a x y

  module _ (p : X → Bool) (upwards : (a b : X) → p a ≡ true → below a b ≡ true → p b ≡ true) where
    -- an item that fails
    filter-insert_by : (x : X) (ys : List X) → p x ≡ false → filter p (insert_by below x ys) ≡ filter p ys
    filter-insert_by x [] fails = rw fails refl
    filter-insert_by x (y ∷ ys) fails = by_cases (filter-insert_by x ys fails) (below x y)
      where
        by_cases : filter p (insert_by below x ys) ≡ filter p ys → (t : Bool) →
            filter p (if t then x ∷ y ∷ ys else y ∷ insert_by below x ys) ≡ filter p (y ∷ ys)
        by_cases rest true = rw fails refl
        by_cases rest false = ap (λ (zs : List X). cond (p y) (y ∷ zs) zs) rest

    -- an item that passes
    first-insert_by : (x : X) (ys : List X) → p x ≡ true → slice_get (filter p (insert_by below x ys)) 0 ≡ lower_of (Some x) (slice_get (filter p ys) 0)
    first-insert_by x [] passes = rw passes refl
    first-insert_by x (y ∷ ys) passes = by_cases (first-insert_by x ys passes) (below x y) (p y) refl refl
      where
        by_cases : slice_get (filter p (insert_by below x ys)) 0 ≡ lower_of (Some x) (slice_get (filter p ys) 0) → (s t : Bool) → below x y ≡ s → p y ≡ t →
            slice_get (filter p (if s then x ∷ y ∷ ys else y ∷ insert_by below x ys)) 0 ≡ lower_of (Some x) (slice_get (cond t (y ∷ filter p ys) (filter p ys)) 0)
        by_cases rest true true low h = rw (passes, low) refl
        by_cases rest true false low h = absurd (let k = upwards x y passes low in cc)
        by_cases rest false true low h = rw (h, low) refl
        by_cases rest false false low h = rw h rest

    lowest_from : (lowest : Option X) (xs : List X) → fold (lower below) lowest (filter p xs) ≡ lower_of lowest (slice_get (filter p (sorted_by below xs)) 0)
    lowest_from lowest [] = refl
    lowest_from lowest (x ∷ xs) = by_test (λ o. lowest_from o xs) (p x) refl
      where
        by_test : ((o : Option X) → fold (lower below) o (filter p xs) ≡ lower_of o (slice_get (filter p (sorted_by below xs)) 0)) → (t : Bool) → p x ≡ t →
            fold (lower below) lowest (cond t (x ∷ filter p xs) (filter p xs)) ≡ lower_of lowest (slice_get (filter p (insert_by below x (sorted_by below xs))) 0)
        by_test rest true h =
            rest (lower below lowest x)
            ∙ lower_of-assoc lowest x (slice_get (filter p (sorted_by below xs)) 0)
            ∙ ap (lower_of lowest) (sym (first-insert_by x (sorted_by below xs) h))
        by_test rest false h = rest lowest ∙ ap (λ (ys : List X). lower_of lowest (slice_get ys 0)) (sym (filter-insert_by x (sorted_by below xs) h))

    pub first-sorted_by : (xs : List X) → slice_get (filter p (sorted_by below xs)) 0 ≡ fold (lower below) None (filter p xs)
    first-sorted_by xs = sym (lowest_from None xs ∙ lower_of-none (slice_get (filter p (sorted_by below xs)) 0))
