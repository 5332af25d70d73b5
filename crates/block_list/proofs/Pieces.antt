-- Edits of one of the lists that are joined end to end.
use Rattle.std.proofs.Common.{◌≡◌, inl, inr, ℕ, zero, suc, ◌+◌, ◌-◌, ◌<◌, ◌≤◌, List, [], ◌∷◌, ◌++◌, length, get_or, take, drop, set, refl, sym, ap, ◌∙◌, append_assoc, length-append, arith, Option, Some, None}
use denote.Ref.{Bor}
use Rattle.std.specs.Prelude.{slice_get, IfSome, MatchOption}
use Rattle.std.specs.Option.{option_copied}
use Rattle.std.specs.List.{flat_map, insert, remove}
use Rattle.std.proofs.lemmas.List.{take_all, drop_all, append-nil, take-append-drop}
use Rattle.std.proofs.lemmas.List.Concat.{flat_map-append, get_or-flat_map}
use Rattle.std.proofs.lemmas.List.Edits.{insert-append_left, insert-append_right, remove-append_left, remove-append_right}
use Rattle.std.proofs.lemmas.Option.{slice_get-get_or, slice_get_read, slice_get_past, slice_get_cases, none-some}

-- what a read behind a reference gives
pub copied : {A : Type 0} (xs : List A) (i : ℕ) (r : Option (Bor A)) (Q : Bor A → Type 0) → MatchOption r (length xs ≤ i) (λ a. (i < length xs) × Q a) → IfSome r (λ a. a.now ≡ get_or xs i a.now) → option_copied r ≡ slice_get xs i
copied xs i None Q past is = sym (slice_get_past xs i past)
copied xs i (Some a) Q within is = sym (slice_get_read xs (length xs) i a.now refl within.0 is)

module _ {A : Type 0} (xs : List A) (i : ℕ) where
  pub past_from_none : slice_get xs i ≡ None → length xs ≤ i
  past_from_none none = elim (slice_get_cases xs i).1 [
    | inl some ↦ absurd (none-some some.0 (sym none ∙ some.2))
    | inr past ↦ past.0
  ]

  pub remove_past : length xs ≤ i → remove xs i ≡ xs
  remove_past past =
      let over : length xs ≤ suc i = omega arith in
      rw (drop_all (suc i) xs over, take_all i xs past) (append-nil xs)

module _ {A : Type 0} (xs : List A) (n o : ℕ) (a : A) where
  -- an element is put into the lower part of a list, or into the upper one
  pub insert_low : o ≤ length (take n xs) → insert (take n xs) o a ++ drop n xs ≡ insert xs o a
  insert_low low = sym (insert-append_left (take n xs) (drop n xs) o a low) ∙ ap (λ (l : List A). insert l o a) (take-append-drop n xs)

  pub insert_high : length (take n xs) ≡ n → n ≤ o → take n xs ++ insert (drop n xs) (o - n) a ≡ insert xs o a
  insert_high is high = sym (insert-append_right (take n xs) (drop n xs) n o a is high) ∙ ap (λ (l : List A). insert l o a) (take-append-drop n xs)

module _ {X A : Type 0} (f : X → List A) where
  -- how many elements stand before a list
  abbrev pub start_of : List X → ℕ → ℕ
  start_of xs k = length (flat_map f (take k xs))

  pub start_next : (xs : List X) (k : ℕ) (d : X) → k < length xs → start_of xs (suc k) ≡ start_of xs k + length (f (get_or xs k d))
  start_next [] k d low = absurd (omega arith)
  start_next (x ∷ xs) zero d low = let here = length-append (f x) [] in omega (arith, here)
  start_next (x ∷ xs) (suc k) d low =
      let rest = start_next xs k d (omega arith) in
      let next = length-append (f x) (flat_map f (take (suc k) xs)) in
      let here = length-append (f x) (flat_map f (take k xs)) in
      omega (arith, rest, next, here)

  pub start_all : (xs : List X) (k : ℕ) → length xs ≤ k → start_of xs k ≡ length (flat_map f xs)
  start_all xs k past = ap (λ (ys : List X). length (flat_map f ys)) (take_all k xs past)

  pub start_rises : (xs : List X) (j k : ℕ) → j ≤ k → start_of xs j ≤ start_of xs k
  start_rises [] zero zero le = omega arith
  start_rises [] zero (suc k) le = omega arith
  start_rises [] (suc j) zero le = absurd (omega arith)
  start_rises [] (suc j) (suc k) le = omega arith
  start_rises (x ∷ xs) zero k le = omega arith
  start_rises (x ∷ xs) (suc j) zero le = absurd (omega arith)
  start_rises (x ∷ xs) (suc j) (suc k) le =
      let rest = start_rises xs j k (omega arith) in
      let low = length-append (f x) (flat_map f (take j xs)) in
      let high = length-append (f x) (flat_map f (take k xs)) in
      omega (arith, rest, low, high)

  pub place_within : (xs : List X) (k o : ℕ) (d : X) → k < length xs → o ≤ length (f (get_or xs k d)) → start_of xs k + o ≤ length (flat_map f xs)
  place_within xs k o d low within =
      let next = start_next xs k d low in
      let high = start_rises xs (suc k) (length xs) (omega arith) in
      let end = start_all xs (length xs) (omega arith) in
      omega (arith, next, high, end)

  -- an element is put into a list, of which the end becomes a list of its own
  pub flat_map-insert : (xs : List X) (k o : ℕ) (a : A) (x y d : X) → k < length xs → o ≤ length (f (get_or xs k d)) → f x ++ f y ≡ insert (f (get_or xs k d)) o a →
      flat_map f (insert (set xs k x) (suc k) y) ≡ insert (flat_map f xs) (start_of xs k + o) a
  flat_map-insert [] k o a x y d low within is = absurd (omega arith)
  flat_map-insert (z ∷ xs) zero o a x y d low within is =
      sym (append_assoc (f x) (f y) (flat_map f xs)) ∙ ap (λ (l : List A). l ++ flat_map f xs) is
      ∙ sym (insert-append_left (f z) (flat_map f xs) o a within)
      ∙ ap (λ (i : ℕ). insert (f z ++ flat_map f xs) i a) (omega arith)
  flat_map-insert (z ∷ xs) (suc k) o a x y d low within is =
      let rest = flat_map-insert xs k o a x y d (omega arith) within is in
      let start = length-append (f z) (flat_map f (take k xs)) in
      let at : start_of (z ∷ xs) (suc k) + o - length (f z) ≡ start_of xs k + o = omega (arith, start) in
      ap (λ (l : List A). f z ++ l) rest
      ∙ sym (insert-append_right (f z) (flat_map f xs) (length (f z)) (start_of (z ∷ xs) (suc k) + o) a refl (omega (arith, start)) ∙ ap (λ (i : ℕ). f z ++ insert (flat_map f xs) i a) at)

  -- a list without elements is put between two
  pub flat_map-insert_none : (xs : List X) (k : ℕ) (y : X) → f y ≡ [] → flat_map f (insert xs k y) ≡ flat_map f xs
  flat_map-insert_none xs k y none =
      flat_map-append f (take k xs) (y ∷ drop k xs)
      ∙ ap (λ (l : List A). flat_map f (take k xs) ++ (l ++ flat_map f (drop k xs))) none
      ∙ sym (flat_map-append f (take k xs) (drop k xs))
      ∙ ap (flat_map f) (take-append-drop k xs)

  -- an element is taken out of a list
  pub flat_map-remove : (xs : List X) (k o : ℕ) (x d : X) → k < length xs → o < length (f (get_or xs k d)) → f x ≡ remove (f (get_or xs k d)) o →
      flat_map f (set xs k x) ≡ remove (flat_map f xs) (start_of xs k + o)
  flat_map-remove [] k o x d low within is = absurd (omega arith)
  flat_map-remove (z ∷ xs) zero o x d low within is = ap (λ (l : List A). l ++ flat_map f xs) is ∙ sym (remove-append_left (f z) (flat_map f xs) o within) ∙ ap (λ (i : ℕ). remove (f z ++ flat_map f xs) i) (omega arith)
  flat_map-remove (z ∷ xs) (suc k) o x d low within is =
      let rest = flat_map-remove xs k o x d (omega arith) within is in
      let start = length-append (f z) (flat_map f (take k xs)) in
      let at : start_of (z ∷ xs) (suc k) + o - length (f z) ≡ start_of xs k + o = omega (arith, start) in
      ap (λ (l : List A). f z ++ l) rest
      ∙ sym (remove-append_right (f z) (flat_map f xs) (length (f z)) (start_of (z ∷ xs) (suc k) + o) refl (omega (arith, start)) ∙ ap (λ (i : ℕ). f z ++ remove (flat_map f xs) i) at)

  -- a list of one element is taken out
  pub flat_map-take_out : (xs : List X) (k o : ℕ) (d : X) → k < length xs → length (f (get_or xs k d)) ≡ 1 → o < 1 → flat_map f (remove xs k) ≡ remove (flat_map f xs) (start_of xs k + o)
  flat_map-take_out [] k o d low one first = absurd (omega arith)
  flat_map-take_out (z ∷ xs) zero o d low one first =
      let none : remove (f z) o ≡ [] = single (f z) o one first in
      sym (remove-append_left (f z) (flat_map f xs) o (omega (arith, one)) ∙ ap (λ (l : List A). l ++ flat_map f xs) none)
      ∙ ap (λ (i : ℕ). remove (f z ++ flat_map f xs) i) (omega arith)
    where
      single : (es : List A) (o : ℕ) → length es ≡ 1 → o < 1 → remove es o ≡ []
      single [] o one first = absurd (omega arith)
      single (a ∷ []) zero one first = refl
      single (a ∷ []) (suc o) one first = absurd (omega arith)
      single (a ∷ (b ∷ es)) o one first = absurd (omega arith)
  flat_map-take_out (z ∷ xs) (suc k) o d low one first =
      let rest = flat_map-take_out xs k o d (omega arith) one first in
      let start = length-append (f z) (flat_map f (take k xs)) in
      let at : start_of (z ∷ xs) (suc k) + o - length (f z) ≡ start_of xs k + o = omega (arith, start) in
      ap (λ (l : List A). f z ++ l) rest
      ∙ sym (remove-append_right (f z) (flat_map f xs) (length (f z)) (start_of (z ∷ xs) (suc k) + o) refl (omega (arith, start)) ∙ ap (λ (i : ℕ). f z ++ remove (flat_map f xs) i) at)

  -- two lists side by side become one
  pub flat_map-join : (xs : List X) (k : ℕ) (x d : X) → suc k < length xs → f x ≡ f (get_or xs k d) ++ f (get_or xs (suc k) d) → flat_map f (set (remove xs (suc k)) k x) ≡ flat_map f xs
  flat_map-join [] k x d low is = absurd (omega arith)
  flat_map-join (z ∷ []) k x d low is = absurd (omega arith)
  flat_map-join (z ∷ (y ∷ xs)) zero x d low is = ap (λ (l : List A). l ++ flat_map f xs) is ∙ append_assoc (f z) (f y) (flat_map f xs)
  flat_map-join (z ∷ (y ∷ xs)) (suc k) x d low is = ap (λ (l : List A). f z ++ l) (flat_map-join (y ∷ xs) k x d (omega arith) is)

  -- an element of a list, or the end of the last list
  pub slice_get-flat_map : (xs : List X) (k o : ℕ) (d : X) → k < length xs → (length (f (get_or xs k d)) ≤ o → suc k ≡ length xs) →
      slice_get (flat_map f xs) (start_of xs k + o) ≡ slice_get (f (get_or xs k d)) o
  slice_get-flat_map xs k o d low last =
      let here = f (get_or xs k d) in
      elim (slice_get_cases here o).1 [
        | inl w ↦
            let w_low : o < length here = w.1 in
            let next = place_within xs k (suc o) d low w_low in
            let under : start_of xs k + o < length (flat_map f xs) = omega (arith, next) in
            slice_get-get_or (flat_map f xs) (start_of xs k + o) w.0 under
            ∙ ap (λ (a : A). Some a) (get_or-flat_map f xs k o d w.0 low w_low ∙ w.3)
            ∙ sym w.2
        | inr w ↦
            let end : suc k ≡ length xs = last w.0 in
            let same : start_of xs (suc k) ≡ start_of xs (length xs) = ap (start_of xs) end in
            let next = start_next xs k d low in
            let all = start_all xs (length xs) (omega arith) in
            let past : length here ≤ o = w.0 in
            slice_get_past (flat_map f xs) (start_of xs k + o) (omega (arith, next, all, same, past)) ∙ sym w.1
      ]
