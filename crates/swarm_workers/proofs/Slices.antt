-- Items of a slice that are changed each by itself, where it is told what each one is.
use Rattle.std.proofs.Common.{◌≡◌, ℕ, zero, suc, ◌<◌, List, [], ◌∷◌, ◌++◌, length, map, take, drop, refl, ap, ◌∙◌, arith, subst}
use Rattle.std.specs.Prelude.{slice_index_or}
use Rattle.std.specs.List.{AllZip}

-- a relation at each place is one of the whole lists
zip_each : {W X : Type 0} (look : W → X) (R : X → X → Type 0) (xs ys : List W) → length ys ≡ length xs
    → ((i : ℕ) (d : W) → i < length xs → R (look (slice_index_or xs i d)) (look (slice_index_or ys i d))) → AllZip R (map look xs) (map look ys)
zip_each look R [] [] same each = tt
zip_each look R [] (y ∷ ys) same each = absurd (omega (arith, same))
zip_each look R (x ∷ xs) [] same each = absurd (omega (arith, same))
zip_each look R (x ∷ xs) (y ∷ ys) same each = (
  each 0 x (omega arith),
  zip_each look R xs ys (omega (arith, same)) (λ i d lt. each (suc i) d (omega (arith, lt))),
)

-- the relation holds of two items that are these
abbrev Moves : {W X : Type 0} → (W → X) → (X → X → Type 0) → W → W → Type 0
Moves {W} look R x y = (a b : W) × (a ≡ x) × (b ≡ y) × R (look a) (look b)

pub zip_moved : {W X : Type 0} (look : W → X) (R : X → X → Type 0) (xs ys : List W) → length ys ≡ length xs
    → ((i : ℕ) (d : W) → i < length xs → Moves look R (slice_index_or xs i d) (slice_index_or ys i d)) → AllZip R (map look xs) (map look ys)
zip_moved look R xs ys same each = zip_each look R xs ys same (λ i d lt.
    let m = each i d lt in
    subst (λ y. R (look (slice_index_or xs i d)) (look y)) m.3 (subst (λ x. R (look x) (look m.1)) m.2 m.4))

-- one map after another
pub map_both : {A B C : Type 0} (f : B → C) (g : A → B) (xs : List A) → map f (map g xs) ≡ map (λ x. f (g x)) xs
map_both f g [] = refl
map_both f g (x ∷ xs) = ap (λ l. f (g x) ∷ l) (map_both f g xs)

module _ {W X : Type 0} (look : W → X) where
  pub length_zip : (R : X → X → Type 0) (xs ys : List W) → AllZip R (map look xs) (map look ys) → length ys ≡ length xs
  length_zip R [] [] all = refl
  length_zip R [] (y ∷ ys) all = absurd all
  length_zip R (x ∷ xs) [] all = absurd all
  length_zip R (x ∷ xs) (y ∷ ys) all = ap suc (length_zip R xs ys all.1)

  take_front : (n : ℕ) (ys zs : List W) → n ≡ length ys → take n (ys ++ zs) ≡ ys
  take_front zero [] zs same = refl
  take_front zero (y ∷ ys) zs same = absurd (omega (arith, same))
  take_front (suc n) [] zs same = absurd (omega (arith, same))
  take_front (suc n) (y ∷ ys) zs same = ap (λ l. y ∷ l) (take_front n ys zs (omega (arith, same)))

  -- what stands in a vector once its slice was changed
  pub written : (R : X → X → Type 0) (xs ys items : List W) (n : ℕ) → length xs ≡ n → AllZip R (map look xs) (map look ys)
      → take n (ys ++ drop (length ys) items) ≡ ys
  written R xs ys items n count all = take_front n ys (drop (length ys) items) (omega (arith, count, length_zip R xs ys all))

  pub count_written : (R : X → X → Type 0) (ws xs ys zs : List W) (n : ℕ) → xs ≡ ws → length ws ≡ n → AllZip R (map look xs) (map look ys) → zs ≡ ys → length zs ≡ n
  count_written R ws xs ys zs n same count all is = ap length is ∙ length_zip R xs ys all ∙ ap length same ∙ count
