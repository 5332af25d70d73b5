-- Lists with the same items, each as often: what an edit of both, or of one, leaves.
use Rattle.std.proofs.Common.{◌≡◌, ℕ, ◌+◌, ◌<◌, Bool, true, false, cond, ◌&&◌, ◌||◌, List, [], ◌∷◌, length, refl, sym, ap, ◌∙◌, arith, ltb}
use Rattle.std.specs.List.{list_any, filter, count_by, insert}
use Rattle.std.proofs.lemmas.Bool.{lt-ltb}
use Rattle.std.proofs.lemmas.List.Sums.{sum_by-cons, sum_by-insert}
use Rattle.blob_rows.specs.SameItems.{SameItems}

module _ {X : Type 0} where
  -- one for an item that passes
  abbrev pub pass : (X → Bool) → X → ℕ
  pass test x = cond (test x) 1 0

  any_counted : (test : X → Bool) (xs : List X) → list_any test xs ≡ ltb 0 (count_by test xs)
  any_counted test [] = refl
  any_counted test (x ∷ xs) = by_test (test x) (any_counted test xs) ∙ ap (λ (n : ℕ). ltb 0 n) (sym (sum_by-cons (pass test) x xs))
    where
      by_test : (t : Bool) → list_any test xs ≡ ltb 0 (count_by test xs) → (t || list_any test xs) ≡ ltb 0 (cond t 1 0 + count_by test xs)
      by_test true rest = let high : 0 < 1 + count_by test xs = omega arith in sym (lt-ltb 0 (1 + count_by test xs) high)
      by_test false rest = let e : 0 + count_by test xs ≡ count_by test xs = omega arith in rest ∙ ap (λ (n : ℕ). ltb 0 n) (sym e)

  pub list_any-same : (test : X → Bool) (xs ys : List X) → SameItems xs ys → list_any test xs ≡ list_any test ys
  list_any-same test xs ys same = any_counted test xs ∙ ap (λ (n : ℕ). ltb 0 n) (same test) ∙ sym (any_counted test ys)

  pub count-filter : (keeps test : X → Bool) (xs : List X) → count_by test (filter keeps xs) ≡ count_by (λ x. keeps x && test x) xs
  count-filter keeps test [] = refl
  count-filter keeps test (x ∷ xs) = by_test (keeps x) (count-filter keeps test xs) ∙ sym (sum_by-cons (pass (λ y. keeps y && test y)) x xs)
    where
      by_test : (t : Bool) → count_by test (filter keeps xs) ≡ count_by (λ x. keeps x && test x) xs →
          count_by test (cond t (x ∷ filter keeps xs) (filter keeps xs)) ≡ cond (t && test x) 1 0 + count_by (λ x. keeps x && test x) xs
      by_test true rest = sum_by-cons (pass test) x (filter keeps xs) ∙ ap (λ (n : ℕ). cond (test x) 1 0 + n) rest
      by_test false rest = omega (arith, rest)

  pub filter-same : (keeps : X → Bool) (xs ys : List X) → SameItems xs ys → SameItems (filter keeps xs) (filter keeps ys)
  filter-same keeps xs ys same test = count-filter keeps test xs ∙ same (λ x. keeps x && test x) ∙ sym (count-filter keeps test ys)

  count-all : (xs : List X) → count_by (λ x. true) xs ≡ length xs
  count-all [] = refl
  count-all (x ∷ xs) = omega (arith, sum_by-cons (pass (λ y. true)) x xs, count-all xs)

  pub length-same : (xs ys : List X) → SameItems xs ys → length xs ≡ length ys
  length-same xs ys same = sym (count-all xs) ∙ same (λ x. true) ∙ count-all ys

  pub insert-same : (xs : List X) (i : ℕ) (x : X) → SameItems (insert xs i x) (x ∷ xs)
  insert-same xs i x test = omega (arith, sum_by-insert (pass test) xs i x, sum_by-cons (pass test) x xs)
