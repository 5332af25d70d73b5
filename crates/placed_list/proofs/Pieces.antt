-- Lists joined end to end, after one or two of them change.
use Rattle.std.proofs.Common.{◌≡◌, ℕ, zero, suc, ◌+◌, ◌<◌, ◌≤◌, List, [], ◌∷◌, ◌++◌, length, get_or, set, take, refl, sym, ap, ◌∙◌, subst, arith}
use Rattle.std.specs.List.{flat_map, insert, remove}
use Rattle.std.proofs.Math.Numerals.{add-one}
use Rattle.std.proofs.lemmas.List.{append_assoc, length-append}
use Rattle.std.proofs.lemmas.List.Edits.{insert-append_left, insert-append_right, remove-append_left, remove-append_right}

module _ {X A : Type 0} (f : X → List A) where
  set_pair : (xs : List X) (i : ℕ) (y z d : X) → suc i < length xs → f y ++ f z ≡ f (get_or xs i d) ++ f (get_or xs (suc i) d) →
      flat_map f (set (set xs i y) (suc i) z) ≡ flat_map f xs
  set_pair [] i y z d low same = absurd (omega arith)
  set_pair (x ∷ []) i y z d low same = absurd (omega arith)
  set_pair (x ∷ next ∷ xs) zero y z d low same =
      sym (append_assoc (f y) (f z) (flat_map f xs)) ∙ ap (λ (l : List A). l ++ flat_map f xs) same ∙ append_assoc (f x) (f next) (flat_map f xs)
  set_pair (x ∷ next ∷ xs) (suc i) y z d low same = ap (λ (l : List A). f x ++ l) (set_pair (next ∷ xs) i y z d (omega arith) same)

  pub flat_map-set_pair : (xs : List X) (i : ℕ) (y z d : X) → i + 1 < length xs → f y ++ f z ≡ f (get_or xs i d) ++ f (get_or xs (i + 1) d) →
      flat_map f (set (set xs i y) (i + 1) z) ≡ flat_map f xs
  flat_map-set_pair xs i y z d low same =
      let next = add-one i in
      subst (λ (n : ℕ). flat_map f (set (set xs i y) n z) ≡ flat_map f xs) (sym next)
      (set_pair xs i y z d (omega arith) (same ∙ ap (λ (n : ℕ). f (get_or xs i d) ++ f (get_or xs n d)) next))

  pub flat_map-insert : (xs : List X) (i j : ℕ) (y d : X) (a : A) → i < length xs → j ≤ length (f (get_or xs i d)) → f y ≡ insert (f (get_or xs i d)) j a →
      flat_map f (set xs i y) ≡ insert (flat_map f xs) (length (flat_map f (take i xs)) + j) a
  flat_map-insert [] i j y d a low within is = absurd (omega arith)
  flat_map-insert (x ∷ xs) zero j y d a low within is =
      ap (λ (l : List A). l ++ flat_map f xs) is ∙ sym (insert-append_left (f x) (flat_map f xs) j a within)
      ∙ ap (λ (n : ℕ). insert (f x ++ flat_map f xs) n a) (omega arith)
  flat_map-insert (x ∷ xs) (suc i) j y d a low within is =
      let before = length (flat_map f (take i xs)) in
      let start : length (f x ++ flat_map f (take i xs)) ≡ length (f x) + before = length-append (f x) (flat_map f (take i xs)) in
      ap (λ (l : List A). f x ++ l) (flat_map-insert xs i j y d a (omega arith) within is)
      ∙ ap (λ (n : ℕ). f x ++ insert (flat_map f xs) n a) (omega (arith, start))
      ∙ sym (insert-append_right (f x) (flat_map f xs) (length (f x)) (length (f x ++ flat_map f (take i xs)) + j) a refl (omega (arith, start)))

  pub flat_map-remove : (xs : List X) (i j : ℕ) (y d : X) → i < length xs → j < length (f (get_or xs i d)) → f y ≡ remove (f (get_or xs i d)) j →
      flat_map f (set xs i y) ≡ remove (flat_map f xs) (length (flat_map f (take i xs)) + j)
  flat_map-remove [] i j y d low within is = absurd (omega arith)
  flat_map-remove (x ∷ xs) zero j y d low within is =
      ap (λ (l : List A). l ++ flat_map f xs) is ∙ sym (remove-append_left (f x) (flat_map f xs) j within)
      ∙ ap (λ (n : ℕ). remove (f x ++ flat_map f xs) n) (omega arith)
  flat_map-remove (x ∷ xs) (suc i) j y d low within is =
      let before = length (flat_map f (take i xs)) in
      let start : length (f x ++ flat_map f (take i xs)) ≡ length (f x) + before = length-append (f x) (flat_map f (take i xs)) in
      ap (λ (l : List A). f x ++ l) (flat_map-remove xs i j y d (omega arith) within is)
      ∙ ap (λ (n : ℕ). f x ++ remove (flat_map f xs) n) (omega (arith, start))
      ∙ sym (remove-append_right (f x) (flat_map f xs) (length (f x)) (length (f x ++ flat_map f (take i xs)) + j) refl (omega (arith, start)))
