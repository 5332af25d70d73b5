use Rattle.std.proofs.Common.{◌≡◌, ◌≤◌, ℕ, List, ◌+◌, ◌-◌, length, take, drop, arith, sym, ap, subst, ◌∙◌}
use Rattle.std.proofs.lemmas.List.{drop-take, length-drop}
use Rattle.std.proofs.lemmas.List.Edits.{take-paste}
use Rattle.std.specs.List.{copy_within}
use Rattle.link_reader.proofs.pending.shift_front.Goals as goal

to_front : (xs : List ℕ) (n end : ℕ) → n ≤ end → end ≤ length xs → take (end - n) (copy_within xs n end 0) ≡ drop n (take end xs)
to_front xs n end order within =
    let len : end - n ≤ length (drop n xs) = omega (arith, length-drop n xs) in
    let sum : n + (end - n) ≡ end = omega arith in
    ap (λ k. take k (copy_within xs n end 0)) (omega arith)
    ∙ take-paste xs 0 (drop n xs) (end - n) (omega arith) len
    ∙ sym (drop-take n (end - n) xs) ∙ ap (λ k. drop n (take k xs)) sum

-- where there is nothing before them they stay
no_move : (xs : List ℕ) (n end : ℕ) → n ≤ 0 → take (end - n) xs ≡ drop n (take end xs)
no_move xs n end none =
    let zero : 0 ≡ n = omega arith in
    subst (λ k. take (end - k) xs ≡ drop k (take end xs)) zero (ap (λ k. take k xs) (omega arith))

pub returns-then-n-gt0 : goal.returns-then-n-gt0
returns-then-n-gt0 c = ap (take (c.args.end - c.args.n)) c.copy_within.ensures.after ∙ to_front c.args.bytes.now c.args.n c.args.end c.requires.order c.requires.within

pub returns-else-n-gt0 : goal.returns-else-n-gt0
returns-else-n-gt0 c = no_move c.args.bytes.now c.args.n c.args.end (omega arith)
