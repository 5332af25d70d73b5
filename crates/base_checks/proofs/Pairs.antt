-- What holds of each two items of a list: in another order, and where it goes from one pair to the next.
use Rattle.std.proofs.Common.{◌≡◌, ℕ, zero, suc, ◌+◌, ◌-◌, ◌<◌, List, length, get_or, swap, AllPairs, IsPermutation, inl, inr, sym, ap, ◌∙◌, refl, subst, arith}
use Rattle.std.specs.List.{AllAdjacentBelow}
use Rattle.std.proofs.lemmas.Bool.{cases_eq, cases_lt}
use Rattle.std.proofs.lemmas.List.Edits.{swapped_from_swap, length-swap}
use Rattle.std.proofs.lemmas.List.Sorted.{IsPermutation-keeps}

module _ {X : Type 0} (R : X → X → Type 0) where
  -- ---- in another order

  -- it holds of each two at different places
  abbrev Far : List X → Type 0
  Far xs = (i j : ℕ) (d : X) → (i ≡ j → ⊥) → i < length xs → j < length xs → R (get_or xs i d) (get_or xs j d)

  module _ (both : (a b : X) → R a b → R b a) where
    far_of : (xs : List X) → AllPairs R xs → Far xs
    far_of xs pairs i j d apart low high = elim (cases_lt i j) [
      | inl less ↦ pairs i j d less high
      | inr more ↦ both (get_or xs j d) (get_or xs i d) (pairs j i d (omega (arith, more, λ (e : i ≡ j). apart e)) low)
    ]

    pairs_of : (xs : List X) → Far xs → AllPairs R xs
    pairs_of xs far i j d less high = far i j d (λ e. omega (arith, less, e)) (omega (arith, less, high)) high

    module _ (xs : List X) (a b : ℕ) (low_a : a < length xs) (low_b : b < length xs) (far : Far xs) (d : X) where
      abbrev ys : List X
      ys = swap xs a b

      at_a : get_or ys a d ≡ get_or xs b d
      at_a = (swapped_from_swap xs ys a b d low_a low_b refl).0

      at_b : get_or ys b d ≡ get_or xs a d
      at_b = (swapped_from_swap xs ys a b d low_a low_b refl).1

      off : (m : ℕ) → (m ≡ a → ⊥) → (m ≡ b → ⊥) → get_or ys m d ≡ get_or xs m d
      off m p q = (swapped_from_swap xs ys a b d low_a low_b refl).2 m p q

      -- a place is one of the two that are swapped, or another
      data Spot (i : ℕ) : Type 0 where
        first : i ≡ a → Spot i
        second : (i ≡ a → ⊥) → i ≡ b → Spot i
        other : (i ≡ a → ⊥) → (i ≡ b → ⊥) → Spot i

      spot : (i : ℕ) → Spot i
      spot i = elim (cases_eq i a) [ inl e ↦ first e | inr p ↦ elim (cases_eq i b) [ inl e ↦ second p e | inr q ↦ other p q ] ]

      read_a : (i : ℕ) → i ≡ a → get_or ys i d ≡ get_or xs b d
      read_a i e = ap (λ (n : ℕ). get_or ys n d) e ∙ at_a

      read_b : (i : ℕ) → i ≡ b → get_or ys i d ≡ get_or xs a d
      read_b i e = ap (λ (n : ℕ). get_or ys n d) e ∙ at_b

      told : (i j m n : ℕ) → get_or ys i d ≡ get_or xs m d → get_or ys j d ≡ get_or xs n d → (m ≡ n → ⊥) → m < length xs → n < length xs → R (get_or ys i d) (get_or ys j d)
      told i j m n e f apart low high = subst (λ (x : X). R x (get_or ys j d)) (sym e) (subst (λ (x : X). R (get_or xs m d) x) (sym f) (far m n d apart low high))

      by_spots : (i j : ℕ) → (i ≡ j → ⊥) → i < length xs → j < length xs → Spot i → Spot j → R (get_or ys i d) (get_or ys j d)
      by_spots i j apart low high (first e) (first f) = absurd (apart (e ∙ sym f))
      by_spots i j apart low high (first e) (second p f) = told i j b a (read_a i e) (read_b j f) (λ g. p (f ∙ g)) low_b low_a
      by_spots i j apart low high (first e) (other p q) = told i j b j (read_a i e) (off j p q) (λ g. q (sym g)) low_b high
      by_spots i j apart low high (second p e) (first f) = told i j a b (read_b i e) (read_a j f) (λ g. p (e ∙ sym g)) low_a low_b
      by_spots i j apart low high (second p e) (second q f) = absurd (apart (e ∙ sym f))
      by_spots i j apart low high (second p e) (other q r) = told i j a j (read_b i e) (off j q r) (λ g. q (sym g)) low_a high
      by_spots i j apart low high (other p q) (first f) = told i j i b (off i p q) (read_a j f) q low low_b
      by_spots i j apart low high (other p q) (second r f) = told i j i a (off i p q) (read_b j f) p low low_a
      by_spots i j apart low high (other p q) (other r t) = told i j i j (off i p q) (off j r t) apart low high

    far_swap : (xs : List X) (a b : ℕ) → a < length xs → b < length xs → Far xs → Far (swap xs a b)
    far_swap xs a b low_a low_b far i j d apart low high =
        let same = length-swap xs a b in
        by_spots xs a b low_a low_b far d i j apart (omega (arith, low, same)) (omega (arith, high, same)) (spot xs a b low_a low_b far d i) (spot xs a b low_a low_b far d j)

    -- what holds of each two holds of them in another order
    pub pairs_moved : (xs ys : List X) → IsPermutation xs ys → AllPairs R xs → AllPairs R ys
    pairs_moved xs ys moved pairs = pairs_of ys (IsPermutation-keeps xs Far (far_of xs pairs) far_swap ys moved)

  -- ---- side by side

  -- what holds of neighbours, and goes from one pair to the next, holds of each two
  pub chained : ((a b c : X) → R a b → R b c → R a c) → (xs : List X) → AllAdjacentBelow R xs (length xs) → AllPairs R xs
  chained chain xs beside i j d less high =
      let there : i + 1 + (j - i - 1) ≡ j = omega (arith, less) in subst (λ (n : ℕ). R (get_or xs i d) (get_or xs n d)) there (far (j - i - 1) (omega (arith, less, high)))
    where
      far : (n : ℕ) → i + 1 + n < length xs → R (get_or xs i d) (get_or xs (i + 1 + n) d)
      far zero low = let same : i + 1 ≡ i + 1 + 0 = omega arith in subst (λ (m : ℕ). R (get_or xs i d) (get_or xs m d)) same (beside i d (omega (arith, low)))
      far (suc n) low =
          (let first = far n (omega (arith, low)) in
          let last = beside (i + 1 + n) d (omega (arith, low)) in
          let same : i + 1 + n + 1 ≡ i + 1 + suc n = omega arith in
          subst (λ (m : ℕ). R (get_or xs i d) (get_or xs m d)) same (chain (get_or xs i d) (get_or xs (i + 1 + n) d) (get_or xs (i + 1 + n + 1) d) first last))
