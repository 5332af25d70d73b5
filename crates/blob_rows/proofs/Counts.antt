-- What counts tell of a list: that one item alone passes a test, or none.
use Rattle.std.proofs.Common.{◌≡◌, ℕ, zero, suc, ◌+◌, ◌≤◌, ◌<◌, Bool, true, false, not, cond, ◌&&◌, ◌||◌, List, [], ◌∷◌, length, get_or, set, map, Option, Some, None, is_some, refl, sym, ap, ◌∙◌, subst, arith, ltb}
use Rattle.std.specs.Prelude.{slice_get}
use Rattle.std.specs.List.{position, position_or_len, remove, find, filter, count_by, list_any}
use Rattle.std.proofs.lemmas.Bool.{ltb-true, ltb-false, lt-ltb, le-ltb, or_parts}
use Rattle.std.proofs.lemmas.Option.{slice_get-get_or}
use Rattle.std.proofs.lemmas.List.Folds.{find_at, list_any_none}
use Rattle.std.proofs.lemmas.List.Sums.{sum_by-cons, sum_by-le-sum_by, get_or-le-sum_by, fails_before_first}
use Rattle.dimensions.proofs.Counting.{count-map, count-none}
use Rattle.blob_rows.specs.SameItems.{SameItems}
use Rattle.blob_rows.proofs.SameItems.{pass, count-filter}

implied : (s t : Bool) → (s ≡ true → t ≡ true) → cond {A = ℕ} s 1 0 ≤ cond t 1 0
implied true true so = omega arith
implied true false so = let h = so refl in absurd (cc)
implied false t so = omega arith

and_second : (s t : Bool) → (s && t) ≡ true → t ≡ true
and_second true t both = both
and_second false t both = absurd (cc)

module _ {X : Type 0} where
  pub count_implied : (p q : X → Bool) → ((x : X) → p x ≡ true → q x ≡ true) → (xs : List X) → count_by p xs ≤ count_by q xs
  count_implied p q so xs = sum_by-le-sum_by (pass p) (pass q) xs (λ x. implied (p x) (q x) (so x))

  pub count_same : (p q : X → Bool) → ((x : X) → p x ≡ q x) → (xs : List X) → count_by p xs ≡ count_by q xs
  count_same p q same xs = omega (arith, count_implied p q (λ x h. sym (same x) ∙ h) xs, count_implied q p (λ x h. same x ∙ h) xs)

  pub count_filtered : (keeps test : X → Bool) (xs : List X) → count_by test (filter keeps xs) ≤ count_by test xs
  count_filtered keeps test xs =
      omega (arith, count-filter keeps test xs, count_implied (λ x. keeps x && test x) test (λ x. and_second (keeps x) (test x)) xs)

  pub passed : (test : X → Bool) (x : X) → test x ≡ true → pass test x ≡ 1
  passed test x is = ap (λ (t : Bool). cond {A = ℕ} t 1 0) is

  pub failed : (test : X → Bool) (x : X) → test x ≡ false → pass test x ≡ 0
  failed test x is = ap (λ (t : Bool). cond {A = ℕ} t 1 0) is

  pub there_counted : (test : X → Bool) (xs : List X) (i : ℕ) (d : X) → i < length xs → test (get_or xs i d) ≡ true → 1 ≤ count_by test xs
  there_counted test xs i d low is = omega (arith, get_or-le-sum_by (pass test) xs i d low, passed test (get_or xs i d) is)

  -- ---- no item passes

  none_out : (test : X → Bool) (xs : List X) → count_by test xs ≤ 0 → filter (λ x. not (test x)) xs ≡ xs
  none_out test [] none = refl
  none_out test (x ∷ xs) none = by_test (test x) refl (none_out test xs)
    where
      by_test : (t : Bool) → test x ≡ t → (count_by test xs ≤ 0 → filter (λ y. not (test y)) xs ≡ xs) →
          cond (not t) (x ∷ filter (λ y. not (test y)) xs) (filter (λ y. not (test y)) xs) ≡ x ∷ xs
      by_test true is rest = absurd (omega (arith, sum_by-cons (pass test) x xs, passed test x is))
      by_test false is rest = ap (λ (l : List X). x ∷ l) (rest (omega (arith, sum_by-cons (pass test) x xs)))

  none_changed : (test : X → Bool) (change : X → X) (xs : List X) → count_by test xs ≤ 0 → map (λ x. cond (test x) (change x) x) xs ≡ xs
  none_changed test change [] none = refl
  none_changed test change (x ∷ xs) none = by_test (test x) refl (none_changed test change xs)
    where
      by_test : (t : Bool) → test x ≡ t → (count_by test xs ≤ 0 → map (λ y. cond (test y) (change y) y) xs ≡ xs) →
          cond t (change x) x ∷ map (λ y. cond (test y) (change y) y) xs ≡ x ∷ xs
      by_test true is rest = absurd (omega (arith, none, sum_by-cons (pass test) x xs, passed test x is))
      by_test false is rest = ap (λ (l : List X). x ∷ l) (rest (omega (arith, none, sum_by-cons (pass test) x xs)))

  pub is_some-find : (test : X → Bool) (xs : List X) → is_some (find test xs) ≡ list_any test xs
  is_some-find test [] = refl
  is_some-find test (x ∷ xs) = by_test (test x) (is_some-find test xs)
    where
      by_test : (t : Bool) → is_some (find test xs) ≡ list_any test xs → is_some (cond t (Some x) (find test xs)) ≡ (t || list_any test xs)
      by_test true rest = refl
      by_test false rest = rest

  pub none_from : (o : Option X) → is_some o ≡ false → o ≡ None
  none_from None is = refl
  none_from (Some x) is = absurd (cc)

  pub position-None : (test : X → Bool) (xs : List X) → position test xs ≡ None → (find test xs ≡ None) × (filter (λ x. not (test x)) xs ≡ xs)
  position-None test xs none = by_test (ltb (position_or_len test xs) (length xs)) refl none
    where
      by_test : (t : Bool) → ltb (position_or_len test xs) (length xs) ≡ t → cond t (Some (position_or_len test xs)) None ≡ None →
          (find test xs ≡ None) × (filter (λ x. not (test x)) xs ≡ xs)
      by_test true is none = absurd (cc)
      by_test false is none =
          let long : length xs ≤ position_or_len test xs = ltb-false (position_or_len test xs) (length xs) is in
          let any : list_any test xs ≡ false = list_any_none test xs (λ k d low. fails_before_first test xs k d (omega arith)) in
          (none_from (find test xs) (is_some-find test xs ∙ any), none_out test xs (omega (arith, count-none test xs any)))

  pub none_place : (test : X → Bool) (xs : List X) → list_any test xs ≡ false → position test xs ≡ None
  none_place test xs none =
      ap (λ (n : ℕ). cond (ltb n (length xs)) (Some n) None) (none_first xs none) ∙ ap (λ (t : Bool). cond {A = Option ℕ} t (Some (length xs)) None) (le-ltb (length xs) (length xs) (omega arith))
    where
      none_first : (ys : List X) → list_any test ys ≡ false → position_or_len test ys ≡ length ys
      none_first [] none = refl
      none_first (y ∷ ys) none =
          let parts = or_parts (test y) (list_any test ys) none in
          let rest : position_or_len test ys ≡ length ys = none_first ys parts.1 in
          ap (λ (t : Bool). cond (not t) (1 + position_or_len test ys) 0) parts.0 ∙ omega (arith, rest)

  -- no item is changed
  pub change_none : (test : X → Bool) (change : X → X) (xs : List X) → position test xs ≡ None → map (λ x. cond (test x) (change x) x) xs ≡ xs
  change_none test change xs none =
      let any : list_any test xs ≡ false = sym (is_some-find test xs) ∙ ap (λ (o : Option X). is_some o) (position-None test xs none).0 in
      none_changed test change xs (omega (arith, count-none test xs any))

  -- what is found stands at the place
  pub place_found : (test : X → Bool) (xs : List X) (i : ℕ) → position test xs ≡ Some i → slice_get xs i ≡ find test xs
  place_found test xs i is = by_test (ltb (position_or_len test xs) (length xs)) is
    where
      by_test : (t : Bool) → cond t (Some (position_or_len test xs)) None ≡ Some i → slice_get xs i ≡ find test xs
      by_test true is = let here : position_or_len test xs ≡ i = cc in sym (find_at test xs ∙ ap (λ (n : ℕ). slice_get xs n) here)
      by_test false is = absurd (cc)

  pub position-find : (test : X → Bool) (xs : List X) (i : ℕ) (d : X) → position test xs ≡ Some i → find test xs ≡ Some (get_or xs i d)
  position-find test xs i d is = by_test (ltb (position_or_len test xs) (length xs)) refl is
    where
      by_test : (t : Bool) → ltb (position_or_len test xs) (length xs) ≡ t → cond t (Some (position_or_len test xs)) None ≡ Some i → find test xs ≡ Some (get_or xs i d)
      by_test true low is =
          let here : position_or_len test xs ≡ i = cc in
          let within : i < length xs = subst (λ (n : ℕ). n < length xs) here (ltb-true (position_or_len test xs) (length xs) low) in
          find_at test xs ∙ ap (λ (n : ℕ). slice_get xs n) here ∙ slice_get-get_or xs i d within
      by_test false low is = absurd (cc)

  -- ---- one item passes

  not_passed : (test : X → Bool) (x : X) (xs : List X) → count_by test (x ∷ xs) ≤ 1 → 1 ≤ count_by test xs → test x ≡ false
  not_passed test x xs few one = by_test (test x) refl
    where
      by_test : (t : Bool) → test x ≡ t → t ≡ false
      by_test true is = absurd (omega (arith, sum_by-cons (pass test) x xs, passed test x is))
      by_test false is = refl

  -- the one item that passes, by its place
  pub remove_one : (test : X → Bool) (xs : List X) (i : ℕ) (d : X) → count_by test xs ≤ 1 → i < length xs → test (get_or xs i d) ≡ true → remove xs i ≡ filter (λ x. not (test x)) xs
  remove_one test [] i d few low is = absurd (omega arith)
  remove_one test (x ∷ xs) zero d few low is =
      sym (ap (λ (t : Bool). cond (not t) (x ∷ filter (λ y. not (test y)) xs) (filter (λ y. not (test y)) xs)) is
      ∙ none_out test xs (omega (arith, sum_by-cons (pass test) x xs, passed test x is)))
  remove_one test (x ∷ xs) (suc i) d few low is =
      let other = not_passed test x xs few (there_counted test xs i d (omega arith) is) in
      ap (λ (l : List X). x ∷ l) (remove_one test xs i d (omega (arith, sum_by-cons (pass test) x xs)) (omega arith) is)
      ∙ sym (ap (λ (t : Bool). cond (not t) (x ∷ filter (λ y. not (test y)) xs) (filter (λ y. not (test y)) xs)) other)

  one_first : (test : X → Bool) (xs : List X) (i : ℕ) (d : X) → count_by test xs ≤ 1 → i < length xs → test (get_or xs i d) ≡ true → position_or_len test xs ≡ i
  one_first test [] i d few low is = absurd (omega arith)
  one_first test (x ∷ xs) zero d few low is = ap (λ (t : Bool). cond (not t) (1 + position_or_len test xs) 0) is
  one_first test (x ∷ xs) (suc i) d few low is =
      let other = not_passed test x xs few (there_counted test xs i d (omega arith) is) in
      let rest : position_or_len test xs ≡ i = one_first test xs i d (omega (arith, few, sum_by-cons (pass test) x xs)) (omega arith) is in
      ap (λ (t : Bool). cond (not t) (1 + position_or_len test xs) 0) other ∙ omega (arith, rest)

  pub one_place : (test : X → Bool) (xs : List X) (i : ℕ) (d : X) → count_by test xs ≤ 1 → i < length xs → test (get_or xs i d) ≡ true → position test xs ≡ Some i
  one_place test xs i d few low is =
      ap (λ (n : ℕ). cond (ltb n (length xs)) (Some n) None) (one_first test xs i d few low is) ∙ ap (λ (t : Bool). cond t (Some i) None) (lt-ltb i (length xs) low)

  -- it is changed
  pub change_one : (test : X → Bool) (change : X → X) (xs : List X) (i : ℕ) (d : X) → count_by test xs ≤ 1 → i < length xs → test (get_or xs i d) ≡ true →
      set xs i (change (get_or xs i d)) ≡ map (λ x. cond (test x) (change x) x) xs
  change_one test change [] i d few low is = absurd (omega arith)
  change_one test change (x ∷ xs) zero d few low is =
      ap (λ (l : List X). change x ∷ l) (sym (none_changed test change xs (omega (arith, few, sum_by-cons (pass test) x xs, passed test x is))))
      ∙ ap (λ (t : Bool). cond t (change x) x ∷ map (λ y. cond (test y) (change y) y) xs) (sym is)
  change_one test change (x ∷ xs) (suc i) d few low is =
      let other = not_passed test x xs few (there_counted test xs i d (omega arith) is) in
      ap (λ (l : List X). x ∷ l) (change_one test change xs i d (omega (arith, few, sum_by-cons (pass test) x xs)) (omega arith) is)
      ∙ ap (λ (t : Bool). cond t (change x) x ∷ map (λ y. cond (test y) (change y) y) xs) (sym other)

module _ {X Y : Type 0} (f : X → Y) where
  pub map-filter : (test : Y → Bool) (xs : List X) → map f (filter (λ x. test (f x)) xs) ≡ filter test (map f xs)
  map-filter test [] = refl
  map-filter test (x ∷ xs) = by_test (test (f x)) (map-filter test xs)
    where
      by_test : (t : Bool) → map f (filter (λ y. test (f y)) xs) ≡ filter test (map f xs) →
          map f (cond t (x ∷ filter (λ y. test (f y)) xs) (filter (λ y. test (f y)) xs)) ≡ cond t (f x ∷ filter test (map f xs)) (filter test (map f xs))
      by_test true rest = ap (λ (l : List Y). f x ∷ l) rest
      by_test false rest = rest

  pub map-same : (xs ys : List X) → SameItems xs ys → SameItems (map f xs) (map f ys)
  map-same xs ys same test = count-map test f xs ∙ same (λ x. test (f x)) ∙ sym (count-map test f ys)
