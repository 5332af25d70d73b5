-- The order of tasks is strict and total.
use Rattle.std.proofs.Common.{◌≡◌, ℕ, Bool, true, false, ap, ◌∙◌, arith}
use Rattle.std.specs.Prelude.{nat_lt, ◌==◌, ◌&&◌, ◌||◌}
use Rattle.std.proofs.lemmas.Bool.Decides.{nat_tests}
use Rattle.block_list.proofs.Rising.{IsStrictOrder}
use Rattle.dim_queue.specs.declared.waiting.Waiting.{Waiting}
use Rattle.dim_queue.specs.Order.{goes_first}

-- the order, over plain numbers
abbrev below : (r n q l : ℕ) → Bool
below r n q l = nat_lt r q || (r == q && nat_lt n l)

below_self : (r n : ℕ) → below r n r n ≡ false
below_self r n = grind (arith, nat_tests)

below_chain : (r n q l s m : ℕ) → below r n q l ≡ true → below q l s m ≡ true → below r n s m ≡ true
below_chain r n q l s m g h = grind (arith, nat_tests)

below_tie : (r n q l : ℕ) → below r n q l ≡ false → below q l r n ≡ false → (r ≡ q) × (n ≡ l)
below_tie r n q l g h = (grind (arith, nat_tests), grind (arith, nat_tests))

not_below_chain : (r n q l s m : ℕ) → below q l r n ≡ false → below s m q l ≡ false → below s m r n ≡ false
not_below_chain r n q l s m g h = grind (arith, nat_tests)

below_one_way : (r n q l : ℕ) → below r n q l ≡ true → below q l r n ≡ false
below_one_way r n q l h = grind (arith, nat_tests)

self_not : (a : Waiting) → goes_first a a ≡ false
self_not a = below_self a.priority a.number

first_chain : (a b c : Waiting) → goes_first a b ≡ true → goes_first b c ≡ true → goes_first a c ≡ true
first_chain a b c g h = below_chain a.priority a.number b.priority b.number c.priority c.number g h

first_tie : (a b : Waiting) → goes_first a b ≡ false → goes_first b a ≡ false → a ≡ b
first_tie a b g h =
    let t = below_tie a.priority a.number b.priority b.number g h in
    let p : a.priority ≡ b.priority = t.0 in
    let n : a.number ≡ b.number = t.1 in
    ap (λ (x : ℕ). record { priority = x; number = a.number }) p ∙ ap (λ (x : ℕ). record { priority = b.priority; number = x }) n

pub strict : IsStrictOrder goes_first
strict = record { itself = self_not; chain = first_chain; tie = first_tie }

pub not_chain : (a b c : Waiting) → goes_first b a ≡ false → goes_first c b ≡ false → goes_first c a ≡ false
not_chain a b c g h = not_below_chain a.priority a.number b.priority b.number c.priority c.number g h

pub one_way : (a b : Waiting) → goes_first a b ≡ true → goes_first b a ≡ false
one_way a b h = below_one_way a.priority a.number b.priority b.number h
