-- The line that comes next is one of the batch.
use Rattle.std.proofs.Common.{◌≡◌, ℕ, ◌+◌, ◌≤◌, ◌<◌, Bool, true, false, length, Some, None, refl, sym, subst, arith}
use Rattle.std.specs.Prelude.{nat_lt, if◌then◌else◌}
use Rattle.std.proofs.lemmas.Bool.{ltb-true}
use Rattle.std.proofs.lemmas.Option.{same_Some}
use Rattle.swarm_batch.specs.Batches.{BatchValue, next_line}

record IsNext (b : BatchValue) (line : ℕ) : Type 0 where
  number : line ≡ length b.marks + 1
  within : length b.marks < length b.lines

next_is : (b : BatchValue) (line : ℕ) → next_line b ≡ Some line → IsNext b line
next_is b line e = by_test (nat_lt (length b.marks) (length b.lines)) refl e
  where
    by_test : (t : Bool) → nat_lt (length b.marks) (length b.lines) ≡ t → (if t then Some (length b.marks + 1) else None) ≡ Some line → IsNext b line
    by_test true is h = record { number = sym (same_Some _ _ h); within = ltb-true (length b.marks) (length b.lines) is }
    by_test false is h = absurd (cc (h))

pub next_from : (b : BatchValue) (line : ℕ) → next_line b ≡ Some line → 1 ≤ line
next_from b line e =
    let next = next_is b line e in
    subst (λ (n : ℕ). 1 ≤ n) (sym next.number) (omega arith)

pub next_within : (b : BatchValue) (line : ℕ) → next_line b ≡ Some line → line ≤ length b.lines
next_within b line e =
    let next = next_is b line e in
    let within = next.within in
    subst (λ (n : ℕ). n ≤ length b.lines) (sym next.number) (omega (arith, within))
