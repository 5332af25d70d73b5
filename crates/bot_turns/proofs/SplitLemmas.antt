-- A list at one of its places.
use Rattle.std.proofs.Common.{◌≡◌, ℕ, zero, suc, ◌+◌, ◌<◌, length, take, drop, get_or, arith, List, [], ◌∷◌, ◌++◌, ap, sym, ◌∙◌}

split_at : {A : Type 0} (items : List A) (i : ℕ) (item : A) → i < length items → item ≡ get_or items i item → (take (suc i) items ≡ take i items ++ item ∷ []) × (items ≡ take i items ++ item ∷ drop (suc i) items)
split_at [] i item p q = absurd (omega (arith, p))
split_at (x ∷ xs) zero item p q = (ap (λ y. y ∷ []) (sym q), ap (λ y. y ∷ xs) (sym q))
split_at (x ∷ xs) (suc k) item p q =
    let r = split_at xs k item (omega (arith, p)) q in
    (ap (λ l. x ∷ l) r.0, ap (λ l. x ∷ l) r.1)

-- one item more is taken
pub take_next : {A : Type 0} (items : List A) (i : ℕ) (item : A) → i < length items → item ≡ get_or items i item → take i items ++ item ∷ [] ≡ take (i + 1) items
take_next items i item p q =
    let one : i + 1 ≡ suc i = omega arith in
    sym (ap (λ n. take n items) one ∙ (split_at items i item p q).0)

pub parts_at : {A : Type 0} (items : List A) (i : ℕ) (item : A) → i < length items → item ≡ get_or items i item → items ≡ take i items ++ item ∷ drop (suc i) items
parts_at items i item p q = (split_at items i item p q).1
