-- What the outline of a value tells: lists item by item, and a text its outline.
use Rattle.std.proofs.Common.{◌≡◌, ℕ, suc, ◌≤◌, List, [], ◌∷◌, map, refl, sym, ap, ap₂, ◌∙◌, arith}
use Rattle.std.specs.Prelude.{unwrap_or}
use Rattle.std.specs.List.{All}
use Rattle.json.specs.Json.{null, max_depth, document}
use Rattle.json.specs.Tree.{depth, items_depth, HasNumbers, ItemsHaveNumbers}
use Rattle.json.proofs.Printed.Trees.{document-print}
use Rattle.serde_json.specs.Data.{Data}
use Rattle.serde_json.specs.View.{items_of}
use Rattle.serde_json.specs.Written.{outline, items_outline, compact_text}
use Rattle.serde_json.proofs.Texts.{print-outline}

pub text_tells : (d e : Data) → HasNumbers (outline d) → HasNumbers (outline e) → depth (outline d) ≤ max_depth → depth (outline e) ≤ max_depth
    → compact_text d ≡ compact_text e → outline d ≡ outline e
text_tells d e d_numbers e_numbers d_shallow e_shallow same =
    ap (λ o. unwrap_or o null)
    (sym (document-print (outline d) d_numbers d_shallow)
    ∙ ap document (print-outline d ∙ same ∙ sym (print-outline e))
    ∙ document-print (outline e) e_numbers e_shallow)

pub list_tells : {A : Type 0} (show : A → Data) (P : A → Type 0) → ((a b : A) → P a → P b → outline (show a) ≡ outline (show b) → a ≡ b)
    → (xs ys : List A) → All P xs → All P ys → items_outline (items_of (map show xs)) ≡ items_outline (items_of (map show ys)) → xs ≡ ys
list_tells show P tells [] [] p q e = refl
list_tells show P tells [] (y ∷ ys) p q e = cc
list_tells show P tells (x ∷ xs) [] p q e = cc
list_tells show P tells (x ∷ xs) (y ∷ ys) p q e =
    let head : outline (show x) ≡ outline (show y) = cc in
    let tail : items_outline (items_of (map show xs)) ≡ items_outline (items_of (map show ys)) = cc in
    ap₂ (λ a l. a ∷ l)
    (tells x y (p 0 x (omega arith)) (q 0 y (omega arith)) head)
    (list_tells show P tells xs ys (λ k d low. p (suc k) d (omega arith)) (λ k d low. q (suc k) d (omega arith)) tail)

pub list_has_numbers : {A : Type 0} (show : A → Data) (P : A → Type 0) → ((a : A) → P a → HasNumbers (outline (show a)))
    → (xs : List A) → All P xs → ItemsHaveNumbers (items_outline (items_of (map show xs)))
list_has_numbers show P h [] p = tt
list_has_numbers show P h (x ∷ xs) p = (h x (p 0 x (omega arith)), list_has_numbers show P h xs (λ k d low. p (suc k) d (omega arith)))

pub list_depth : {A : Type 0} (show : A → Data) (n : ℕ) → ((a : A) → depth (outline (show a)) ≤ n) → (xs : List A) → items_depth (items_outline (items_of (map show xs))) ≤ n
list_depth show n h [] = omega arith
list_depth show n h (x ∷ xs) = omega (arith, h x, list_depth show n h xs)
