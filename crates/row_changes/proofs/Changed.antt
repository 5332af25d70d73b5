-- A change of the row of a number is a change at its place.
use Rattle.std.proofs.Common.{◌≡◌, ℕ, zero, suc, ◌+◌, ◌<◌, ◌≤◌, Bool, true, false, List, [], ◌∷◌, length, get_or, map, refl, ap, arith, sym}
use Rattle.std.specs.Prelude.{◌==◌, if◌then◌else◌}
use Rattle.std.proofs.lemmas.Bool.Decides.{nat_tests}
use lib.ListN.{set}
use Rattle.swarm_model.specs.Numbers.{AreNumbered, change_at}

module _ {R : Type 0} (number_of : R → ℕ) (change : R → R) where
  by_test : (b : Bool) (x y : R) → b ≡ true → (if b then x else y) ≡ x
  by_test true x y h = refl
  by_test false x y h = absurd (cc)

  by_other : (b : Bool) (x y : R) → b ≡ false → (if b then x else y) ≡ y
  by_other false x y h = refl
  by_other true x y h = absurd (cc)

  is_same : (a b : ℕ) → a ≡ b → (a == b) ≡ true
  is_same a b h = grind (arith, nat_tests)

  is_not : (a b : ℕ) → a < b → (a == b) ≡ false
  is_not a b h = grind (arith, nat_tests)

  is_above : (a b : ℕ) → b < a → (a == b) ≡ false
  is_above a b h = grind (arith, nat_tests)

  at_it : (number : ℕ) (x : R) → number_of x ≡ number → change_at number_of number change x ≡ change x
  at_it number x is = by_test (number_of x == number) (change x) x (is_same (number_of x) number is)

  before : (number : ℕ) (x : R) → number_of x < number → change_at number_of number change x ≡ x
  before number x less = by_other (number_of x == number) (change x) x (is_not (number_of x) number less)

  behind : (number : ℕ) (x : R) → number < number_of x → change_at number_of number change x ≡ x
  behind number x less = by_other (number_of x == number) (change x) x (is_above (number_of x) number less)

  cons_both : (x y : R) (xs ys : List R) → x ≡ y → xs ≡ ys → (x ∷ xs) ≡ (y ∷ ys)
  cons_both x y xs ys p q = cc

  pub all_behind : (number k : ℕ) (xs : List R) → number < k → AreNumbered number_of k xs → map (change_at number_of number change) xs ≡ xs
  all_behind number k [] less counts = refl
  all_behind number k (x ∷ xs) less counts =
      let h : number < number_of x = omega (arith, counts.0) in
      cons_both _ _ _ _ (behind number x h) (all_behind number (k + 1) xs (omega arith) counts.1)

  pub all_before : (number k : ℕ) (xs : List R) → k + length xs ≤ number → AreNumbered number_of k xs → map (change_at number_of number change) xs ≡ xs
  all_before number k [] less counts = refl
  all_before number k (x ∷ xs) less counts =
      let h : number_of x < number = omega (arith, counts.0) in
      cons_both _ _ _ _ (before number x h) (all_before number (k + 1) xs (omega arith) counts.1)

  pub at_place : (number k i : ℕ) (xs : List R) (x : R) → number ≡ k + i → i < length xs → AreNumbered number_of k xs → x ≡ get_or xs i x →
      map (change_at number_of number change) xs ≡ set xs i (change x)
  at_place number k i [] x is less counts there = absurd (omega arith)
  at_place number k zero (y ∷ ys) x is less counts there =
      let e : number_of y ≡ number = omega (arith, counts.0) in
      let f : change y ≡ change x = ap change (sym there) in
      cons_both _ _ _ _ (grind (arith, at_it number y e, f)) (all_behind number (k + 1) ys (omega arith) counts.1)
  at_place number k (suc i) (y ∷ ys) x is less counts there =
      let h : number_of y < number = omega (arith, counts.0) in
      cons_both _ _ _ _ (before number y h) (at_place number (k + 1) i ys x (omega arith) (omega arith) counts.1 there)
