-- The name of a claim tells its session and its count.
use Rattle.std.proofs.Common.{◌≡◌, ℕ, zero, suc, ◌+◌, ◌<◌, ◌^◌, List, [], ◌∷◌, ◌++◌, map, refl, ap, sym, subst, arith}
use Rattle.std.specs.Prelude.{⊤, decimal, codes}
use Rattle.std.proofs.lemmas.Fmt.{decimal_injective, decimal_digit, decimal-digits_of}
use Rattle.bot_requests.specs.Bodies.{claim_name}

abbrev NoDash : List ℕ → Type 0
NoDash [] = ⊤
NoDash (x ∷ xs) = (x ≡ 45 → ⊥) × NoDash xs

digits_no_dash : (ds : List ℕ) → NoDash (map (λ (d : ℕ). 48 + d) ds)
digits_no_dash [] = tt
digits_no_dash (d ∷ ds) = (λ h. omega (arith, h), digits_no_dash ds)

decimal_no_dash : (n : ℕ) → n < 2 ^ 64 → NoDash (decimal n)
decimal_no_dash zero h = subst NoDash (sym (decimal_digit 0 (omega arith))) (λ e. omega (arith, e), tt)
decimal_no_dash (suc n) h = subst NoDash (sym (decimal-digits_of (suc n) (omega arith) h)) (digits_no_dash _)

-- what stands before the first dash, and behind it
split_at_dash : (a b u v : List ℕ) → NoDash a → NoDash b → a ++ 45 ∷ u ≡ b ++ 45 ∷ v → (a ≡ b) × (u ≡ v)
split_at_dash [] [] u v p q h = (refl, cc (h))
split_at_dash [] (y ∷ b) u v p q h = absurd (let e : 45 ≡ y = cc (h) in q.0 (sym e))
split_at_dash (x ∷ a) [] u v p q h = absurd (let e : x ≡ 45 = cc (h) in p.0 e)
split_at_dash (x ∷ a) (y ∷ b) u v p q h =
    let e : x ≡ y = cc (h) in
    let t : a ++ 45 ∷ u ≡ b ++ 45 ∷ v = cc (h) in
    let k = split_at_dash a b u v p.1 q.1 t in (subst (λ z. x ∷ a ≡ z ∷ b) e (ap (λ (zs : List ℕ). x ∷ zs) k.0), k.1)

same_behind : (a u v : List ℕ) → a ++ u ≡ a ++ v → u ≡ v
same_behind [] u v h = h
same_behind (x ∷ a) u v h = same_behind a u v (cc (h))

pub names_apart : (f x c y d : ℕ) → x < 2 ^ 64 → c < 2 ^ 64 → y < 2 ^ 64 → d < 2 ^ 64 → claim_name f x c ≡ claim_name f y d → (x ≡ y) × (c ≡ d)
unfolding claim_name
names_apart f x c y d x1 c1 y1 d1 h =
    let t : codes "-" ++ (decimal x ++ (codes "-" ++ decimal c)) ≡ codes "-" ++ (decimal y ++ (codes "-" ++ decimal d)) = same_behind (decimal f) _ _ h in
    let r : decimal x ++ 45 ∷ decimal c ≡ decimal y ++ 45 ∷ decimal d = same_behind (codes "-") _ _ t in
    let k = split_at_dash (decimal x) (decimal y) (decimal c) (decimal d) (decimal_no_dash x x1) (decimal_no_dash y y1) r in
    (decimal_injective x y x1 y1 k.0, decimal_injective c d c1 d1 k.1)
