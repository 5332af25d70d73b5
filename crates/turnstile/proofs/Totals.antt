-- AddUp over lists, and how often a number stands in them.
use Rattle.std.proofs.Common.{◌^◌, ◌≡◌, ◌≢◌, ℕ, zero, suc, ◌+◌, ◌*◌, ◌<◌, ◌≤◌, ◌==◌, List, [], ◌∷◌, ◌++◌, length, set, refl, sym, ap, arith, if◌then◌else◌}
use Rattle.std.proofs.lemmas.Bool.Decides.{nat_tests}
use mathlib.Core.Option.{some, some-ne-none, some-injective}
use lib.ListN.{get_elem?}
use Rattle.turnstile.specs.Numbers.{times, once_below, total}

pub total_set : {W : Type 0} (f : W → ℕ) (views : List W) (i : ℕ) (v w : W) → get_elem? views i ≡ some v → total f (set views i w) + f v ≡ total f views + f w
total_set f [] i v w e = absurd (some-ne-none v (sym e))
total_set f (u ∷ us) zero v w e = let s : f u ≡ f v = ap f (some-injective u v e) in omega (arith, s)
total_set f (u ∷ us) (suc i) v w e = omega (arith, total_set f us i v w e)

pub total_snoc : {W : Type 0} (f : W → ℕ) (views : List W) (w : W) → total f (views ++ w ∷ []) ≡ total f views + f w
total_snoc f [] w = omega arith
total_snoc f (u ∷ us) w = omega (arith, total_snoc f us w)

pub total_at : {W : Type 0} (f : W → ℕ) (views : List W) (i : ℕ) (v : W) → get_elem? views i ≡ some v → f v ≤ total f views
total_at f [] i v e = absurd (some-ne-none v (sym e))
total_at f (u ∷ us) zero v e = let s : f u ≡ f v = ap f (some-injective u v e) in omega (arith, s)
total_at f (u ∷ us) (suc i) v e = omega (arith, total_at f us i v e)

pub total_two : {W : Type 0} (f : W → ℕ) (views : List W) (i j : ℕ) (v w : W) → i ≢ j → get_elem? views i ≡ some v → get_elem? views j ≡ some w → f v + f w ≤ total f views
total_two f [] i j v w ne ei ej = absurd (some-ne-none v (sym ei))
total_two f (u ∷ us) zero zero v w ne ei ej = absurd (ne refl)
total_two f (u ∷ us) zero (suc j) v w ne ei ej = let s : f u ≡ f v = ap f (some-injective u v ei) in omega (arith, s, total_at f us j w ej)
total_two f (u ∷ us) (suc i) zero v w ne ei ej = let s : f u ≡ f w = ap f (some-injective u w ej) in omega (arith, s, total_at f us i v ei)
total_two f (u ∷ us) (suc i) (suc j) v w ne ei ej = omega (arith, total_two f us i j v w (λ e. ne (ap suc e)) ei ej)

-- what bounds each bounds the sum
pub total_most : {W : Type 0} (f g : W → ℕ) (views : List W) → ((i : ℕ) (v : W) → get_elem? views i ≡ some v → f v ≤ 2 ^ 40 * g v) → total f views ≤ 2 ^ 40 * total g views
total_most f g [] h = omega arith
total_most f g (u ∷ us) h = omega (arith, h zero u refl, total_most f g us (λ i v e. h (suc i) v e))

pub times_append : (k : ℕ) (xs ys : List ℕ) → times k (xs ++ ys) ≡ times k xs + times k ys
times_append k [] ys = omega arith
times_append k (x ∷ xs) ys = omega (arith, times_append k xs ys)

pub times_length : (k : ℕ) (xs : List ℕ) → times k xs ≤ length xs
times_length k [] = omega arith
times_length k (x ∷ xs) = let one : (if x == k then 1 else 0) ≤ 1 = grind (arith, nat_tests) in omega (arith, one, times_length k xs)

pub once_more : (k made : ℕ) → once_below k (made + 1) ≡ once_below k made + times k (made ∷ [])
once_more k made = grind (arith, nat_tests)

pub times_one : (k made : ℕ) → 0 < times k (made ∷ []) → made ≡ k
times_one k made h = grind (arith, nat_tests)

pub at_most_once : (k made : ℕ) → once_below k made ≤ 1
at_most_once k made = grind (arith, nat_tests)

pub once_means : (k made : ℕ) → 0 < once_below k made → k < made
once_means k made h = grind (arith, nat_tests)

pub once_at : (k made : ℕ) → k < made → once_below k made ≡ 1
once_at k made h = grind (arith, nat_tests)

pub never_at : (k made : ℕ) → once_below k made ≡ 0 → made ≤ k
never_at k made h = grind (arith, nat_tests)

total_zero : {W : Type 0} (f : W → ℕ) (views : List W) → ((j : ℕ) (u : W) → get_elem? views j ≡ some u → f u ≡ 0) → total f views ≡ 0
total_zero f [] h = refl
total_zero f (u ∷ us) h = omega (arith, h zero u refl, total_zero f us (λ j w e. h (suc j) w e))

-- the sum where all but one have nothing
pub total_only : {W : Type 0} (f : W → ℕ) (views : List W) (i : ℕ) (v : W) → get_elem? views i ≡ some v → ((j : ℕ) (u : W) → j ≢ i → get_elem? views j ≡ some u → f u ≡ 0) → total f views ≡ f v
total_only f [] i v e h = absurd (some-ne-none v (sym e))
total_only f (u ∷ us) zero v e h = let s : f u ≡ f v = ap f (some-injective u v e) in omega (arith, s, total_zero f us (λ j w ew. h (suc j) w (λ t. omega arith) ew))
total_only f (u ∷ us) (suc i) v e h = omega (arith, h zero u (λ t. omega arith) refl, total_only f us i v e (λ j w ne ew. h (suc j) w (λ t. ne (omega arith)) ew))

pub listed_one : (a b : ℕ) → a ≡ b → 0 < times b (a ∷ [])
listed_one a b e = grind (arith, nat_tests)
