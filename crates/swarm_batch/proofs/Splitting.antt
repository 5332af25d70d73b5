-- A list is split in one way at the first, or at the last, of an element.
use Rattle.std.proofs.Common.{◌≡◌, ℕ, ◌==◌, true, false, List, [], ◌∷◌, ◌++◌, refl, sym, ◌∙◌, true≢false, arith}
use Rattle.std.specs.List.{list_any}
use Rattle.std.proofs.lemmas.List.Folds.{list_any-append}
use Rattle.std.proofs.lemmas.Bool.{eq-eqb}

-- the element isn't in the list
abbrev pub Lacks : ℕ → List ℕ → Type 0
Lacks d xs = list_any (λ x. x == d) xs ≡ false

lacks_rest : (d x : ℕ) (xs : List ℕ) → Lacks d (x ∷ xs) → Lacks d xs
lacks_rest d x xs h = grind (arith, h)

has_it : (d : ℕ) (xs ys : List ℕ) → Lacks d (xs ++ d ∷ ys) → ⊥
has_it d xs ys h =
    let one : (d == d) ≡ true = eq-eqb d d refl in
    let all = list_any-append (λ x. x == d) xs (d ∷ ys) in
    true≢false (grind (arith, h, one, all))

-- the first of an element
pub split_first : (d : ℕ) (xs ys ps qs : List ℕ) → Lacks d xs → Lacks d ys → xs ++ d ∷ ps ≡ ys ++ d ∷ qs → (xs ≡ ys) × (ps ≡ qs)
split_first d [] [] ps qs h g e = (refl, cc)
split_first d [] (y ∷ ys) ps qs h g e = elim (has_it d [] ys (let is : y ≡ d = cc in grind (arith, g, is))) [ ]
split_first d (x ∷ xs) [] ps qs h g e = elim (has_it d [] xs (let is : x ≡ d = cc in grind (arith, h, is))) [ ]
split_first d (x ∷ xs) (y ∷ ys) ps qs h g e =
    let first : x ≡ y = cc in
    let rest : xs ++ d ∷ ps ≡ ys ++ d ∷ qs = cc in
    let more = split_first d xs ys ps qs (lacks_rest d x xs h) (lacks_rest d y ys g) rest in
    (cc, more.1)

-- the last of an element
pub split_last : (d : ℕ) (xs ys ps qs : List ℕ) → Lacks d ps → Lacks d qs → xs ++ d ∷ ps ≡ ys ++ d ∷ qs → (xs ≡ ys) × (ps ≡ qs)
split_last d [] [] ps qs h g e = (refl, cc)
split_last d [] (y ∷ ys) ps qs h g e = let rest : ps ≡ ys ++ d ∷ qs = cc in elim (has_it d ys qs (rw (sym rest) h)) [ ]
split_last d (x ∷ xs) [] ps qs h g e = let rest : xs ++ d ∷ ps ≡ qs = cc in elim (has_it d xs ps (rw rest g)) [ ]
split_last d (x ∷ xs) (y ∷ ys) ps qs h g e =
    let first : x ≡ y = cc in
    let rest : xs ++ d ∷ ps ≡ ys ++ d ∷ qs = cc in
    let more = split_last d xs ys ps qs h g rest in
    (cc, more.1)

-- what doesn't have an element isn't what has it
pub lacks_split : (d : ℕ) (xs ys ps : List ℕ) → Lacks d xs → xs ≡ ys ++ d ∷ ps → ⊥
lacks_split d xs ys ps h e = has_it d ys ps (rw e at h)

pub lacks_append : (d : ℕ) (xs ys : List ℕ) → Lacks d xs → Lacks d ys → Lacks d (xs ++ ys)
lacks_append d xs ys h g = list_any-append (λ x. x == d) xs ys ∙ grind (arith, h, g)
