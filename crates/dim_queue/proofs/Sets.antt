-- The comparison of sets decides whether they are equal.
use Rattle.std.proofs.Common.{◌≡◌, ◌≢◌, ℕ, true, false, List, [], ◌∷◌, refl, sym, ap, ◌∙◌, subst}
use Rattle.std.specs.Cmp.Lexicographic.{pointwise, bytes_decides}
use Rattle.std.proofs.lemmas.Bool.{and_from, and_parts, false≢true}
use Rattle.dimensions.specs.declared.dim_set.DimSet.{DimSet}
use Rattle.dimensions.specs.Alike.{same, same_pair}

-- sets that compare as equal are equal
pub one_set : (a b : DimSet) → pointwise same_pair a b ≡ true → a ≡ b
one_set [] [] e = refl
one_set [] (y ∷ ys) e = absurd (cc (e))
one_set (x ∷ xs) [] e = absurd (cc (e))
one_set (x ∷ xs) (y ∷ ys) e =
    let two = and_parts (same_pair x y) (pointwise same_pair xs ys) e in
    let texts = and_parts (same x.0 y.0) (same x.1 y.1) two.0 in
    let keys : x.0 ≡ y.0 = (bytes_decides x.0 y.0).0 texts.0 in
    let values : x.1 ≡ y.1 = (bytes_decides x.1 y.1).0 texts.1 in
    ap (λ (k : List ℕ). (k, x.1) ∷ xs) keys ∙ ap (λ (v : List ℕ). (y.0, v) ∷ xs) values ∙ ap (λ (r : DimSet). y ∷ r) (one_set xs ys two.1)

pair_itself : (x : List ℕ × List ℕ) → same_pair x x ≡ true
pair_itself x = and_from (same x.0 x.0) (same x.1 x.1) ((bytes_decides x.0 x.0).1 refl) ((bytes_decides x.1 x.1).1 refl)

set_itself : (a : DimSet) → pointwise same_pair a a ≡ true
set_itself [] = refl
set_itself (x ∷ xs) = and_from (same_pair x x) (pointwise same_pair xs xs) (pair_itself x) (set_itself xs)

-- and sets that do not are not
pub other_sets : (a b : DimSet) → pointwise same_pair a b ≡ false → a ≢ b
other_sets a b differ e = false≢true (sym differ ∙ subst (λ (x : DimSet). pointwise same_pair a x ≡ true) e (set_itself a))
