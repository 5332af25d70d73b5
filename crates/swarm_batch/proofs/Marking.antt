-- Lines of marks.
use Rattle.std.proofs.Math.Seq.{take-suc}
use Rattle.std.proofs.Common.{◌≡◌, ℕ, ◌<◌, take, get_or, add-one, ◌+◌, List, [], ◌∷◌, ◌++◌, length, sym, ap, ◌∙◌, arith, append_assoc, append-nil, length-take-le}
use Rattle.swarm_batch.specs.declared.mark.Mark.{Mark}
use Rattle.swarm_batch.specs.Marks.{mark_line, mark_lines}

pub mark_lines-append : (line : ℕ) (xs ys : List Mark) → mark_lines line (xs ++ ys) ≡ mark_lines line xs ++ mark_lines (line + length xs) ys
mark_lines-append line [] ys = grind arith
mark_lines-append line (x ∷ xs) ys =
    (let rest = mark_lines-append (line + 1) xs ys in
    let same : (line + 1) + length xs ≡ line + length (x ∷ xs) = omega arith in
    ap (λ (t : List ℕ). mark_line line x ++ t) (rest ∙ ap (λ (n : ℕ). mark_lines (line + 1) xs ++ mark_lines n ys) same)
    ∙ sym (append_assoc (mark_line line x) (mark_lines (line + 1) xs) (mark_lines (line + length (x ∷ xs)) ys)))

pub mark_lines-one : (line : ℕ) (xs : List Mark) (x : Mark) → mark_lines line (xs ++ x ∷ []) ≡ mark_lines line xs ++ mark_line (line + length xs) x
mark_lines-one line xs x = mark_lines-append line xs (x ∷ []) ∙ ap (λ (t : List ℕ). mark_lines line xs ++ t) (append-nil (mark_line (line + length xs) x))

-- the lines of one mark more
pub mark_lines_more : (marks : List Mark) (place : ℕ) (x : Mark) → place < length marks
    → mark_lines 1 (take (place + 1) marks) ≡ mark_lines 1 (take place marks) ++ mark_line (place + 1) (get_or marks place x)
mark_lines_more marks place x within =
    (let one : take (place + 1) marks ≡ take place marks ++ get_or marks place x ∷ [] = ap (λ (n : ℕ). take n marks) (add-one place) ∙ take-suc marks place x within in
    let many : length (take place marks) ≡ place = length-take-le place marks (omega arith) in
    let at : 1 + length (take place marks) ≡ place + 1 = omega arith in
    ap (mark_lines 1) one ∙ mark_lines-one 1 (take place marks) (get_or marks place x) ∙ ap (λ (n : ℕ). mark_lines 1 (take place marks) ++ mark_line n (get_or marks place x)) at)
