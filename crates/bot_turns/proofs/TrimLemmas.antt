-- What a trim leaves of a table.
use Rattle.std.proofs.Common.{◌≡◌, ℕ, ◌-◌, ◌≤◌, List, [], ◌∷◌, ◌++◌, length, Bool, true, false, ◌&&◌, nat_le, if◌then◌else◌, refl, ap, ◌∙◌, arith}
use Rattle.std.proofs.lemmas.Bool.Decides.{nat_tests}
use Rattle.named_caches.specs.Caches.{bytes_of}
use Rattle.bot_turns.specs.CacheTurns.{kept_entries}

both_true : (a b c d : ℕ) → a ≤ b → c ≤ d → (nat_le a b && nat_le c d) ≡ true
both_true a b c d p q = grind (arith, nat_tests)

if_true : (c : Bool) (xs : List (List ℕ × ℕ)) → c ≡ true → (if c then xs else []) ≡ xs
if_true true xs h = refl
if_true false xs h = absurd (cc)

pub all_fit : (most bytes : ℕ) (es : List (List ℕ × ℕ)) → length es ≤ most → bytes_of es ≤ bytes → kept_entries most bytes es ≡ es
all_fit most bytes [] p q = refl
all_fit most bytes (e ∷ es) p q =
    if_true (nat_le 1 most && nat_le e.1 bytes) (e ∷ kept_entries (most - 1) (bytes - e.1) es) (both_true 1 most e.1 bytes (omega (arith, p)) (omega (arith, q)))
    ∙ ap (λ l. e ∷ l) (all_fit (most - 1) (bytes - e.1) es (omega (arith, p)) (omega (arith, q)))

if_same : (c : Bool) (e : List ℕ × ℕ) (xs ys : List (List ℕ × ℕ)) → (c ≡ true → xs ≡ ys) → (if c then e ∷ xs else []) ≡ (if c then e ∷ ys else [])
if_same true e xs ys h = ap (λ l. e ∷ l) (h refl)
if_same false e xs ys h = refl

parts : (a b c d : ℕ) → (nat_le a b && nat_le c d) ≡ true → (a ≤ b) × (c ≤ d)
parts a b c d h = (grind (arith, nat_tests, h), grind (arith, nat_tests, h))

if_false : (c : Bool) (xs : List (List ℕ × ℕ)) → (c ≡ true → ⊥) → (if c then xs else []) ≡ []
if_false true xs h = absurd (h refl)
if_false false xs h = refl

-- the last goes where not all fit
pub last_goes : (most bytes : ℕ) (es : List (List ℕ × ℕ)) (e : List ℕ × ℕ) → ((length (es ++ e ∷ []) ≤ most) × (bytes_of (es ++ e ∷ []) ≤ bytes) → ⊥) → kept_entries most bytes (es ++ e ∷ []) ≡ kept_entries most bytes es
last_goes most bytes [] e h =
    if_false (nat_le 1 most && nat_le e.1 bytes) (e ∷ []) (λ k. h ((parts 1 most e.1 bytes k).0, omega (arith, (parts 1 most e.1 bytes k).1)))
last_goes most bytes (d ∷ es) e h =
    if_same (nat_le 1 most && nat_le d.1 bytes) d _ _
    (λ k. last_goes (most - 1) (bytes - d.1) es e (λ g. h (omega (arith, g.0, (parts 1 most d.1 bytes k).0), omega (arith, g.1, (parts 1 most d.1 bytes k).1))))
