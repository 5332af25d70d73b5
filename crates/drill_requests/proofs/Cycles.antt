-- One more cycle.
use Rattle.std.proofs.Common.{◌≡◌, ℕ, ◌+◌, ◌*◌, ◌++◌, length, refl, arith, ap, sym, ◌∙◌, add-one}
use Rattle.std.proofs.lemmas.List.{length-append}
use Rattle.drill_requests.specs.Draws.{next_value, value_after}
use Rattle.drill_requests.specs.Requests.{cycle_from, cycle_after, cycles, requests, handshakes}
use mathlib.Core.List.{append_assoc}

value_after-more : (start n m : ℕ) → m ≡ n + 1 → value_after start m ≡ next_value (value_after start n)
unfolding value_after
value_after-more start n m e = rw (e, add-one) refl

three : (start n : ℕ) → value_after (value_after start (3 * n)) 3 ≡ next_value (next_value (next_value (value_after start (3 * n))))
unfolding value_after
three start n = refl

-- three numbers more
pub value_after-cycle : (start n x : ℕ) → x ≡ value_after start (3 * n) → value_after start (3 * (n + 1)) ≡ value_after x 3
value_after-cycle start n x e =
    value_after-more start (3 * n + 2) (3 * (n + 1)) (omega arith)
    ∙ ap next_value (value_after-more start (3 * n + 1) (3 * n + 2) (omega arith)
    ∙ ap next_value (value_after-more start (3 * n) (3 * n + 1) (omega arith)))
    ∙ sym (three start n)
    ∙ ap (λ v. value_after v 3) (sym e)

pub value_after-none : (start : ℕ) → value_after start 0 ≡ start
unfolding value_after
value_after-none start = refl

cycles-more : (start n : ℕ) → cycles start (n + 1) ≡ cycles start n ++ cycle_after start n
unfolding cycles
cycles-more start n = rw add-one refl

pub requests-none : (start : ℕ) → requests start 0 ≡ handshakes
unfolding requests cycles
requests-none start = refl

pub requests-more : (start n x : ℕ) → x ≡ value_after start (3 * n) → requests start (n + 1) ≡ requests start n ++ cycle_from (n + 1) x
unfolding requests cycle_after
requests-more start n x e =
    ap (λ more. handshakes ++ more) (cycles-more start n)
    ∙ sym (append_assoc handshakes (cycles start n) (cycle_after start n))
    ∙ ap (λ v. handshakes ++ cycles start n ++ cycle_from (n + 1) v) (sym e)

pub length-requests-more : (start n x : ℕ) → x ≡ value_after start (3 * n) → length (requests start (n + 1)) ≡ length (requests start n) + length (cycle_from (n + 1) x)
length-requests-more start n x e = ap length (requests-more start n x e) ∙ length-append (requests start n) (cycle_from (n + 1) x)

pub length-requests-none : (start : ℕ) → length (requests start 0) ≡ 8
length-requests-none start = ap length (requests-none start)
