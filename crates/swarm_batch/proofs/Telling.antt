-- The progress of marks tells these marks.
use Rattle.std.proofs.Common.{◌≡◌, ◌≢◌, inl, inr, ℕ, ◌+◌, ◌<◌, ◌≤◌, ◌^◌, true, List, [], ◌∷◌, ◌++◌, length, Result, Ok, Err, refl, sym, ap, ◌∙◌, subst, append_assoc, arith}
use Rattle.std.specs.Prelude.{codes}
use Rattle.std.specs.List.{list_all}
use Rattle.std.proofs.lemmas.Bool.{and_parts}
use Rattle.std.proofs.lemmas.List.{append_cancel_left}
use Rattle.swarm_batch.specs.declared.faults.BatchRule.TheVariants as rule
use Rattle.swarm_batch.specs.declared.faults.BatchFault.{BatchFault}
use Rattle.swarm_batch.specs.declared.faults.BatchFault.TheVariants as fault
use Rattle.swarm_batch.specs.declared.mark.Mark.{Mark}
use Rattle.swarm_batch.specs.Marks.{is_mark, mark_line, mark_lines, progress_text}
use Rattle.swarm_batch.specs.Batches.{AreMarks}
use Rattle.swarm_batch.specs.Progress.{HasNoMark, GoesWrong}
use Rattle.swarm_batch.specs.Laws.{IsOrMemory, ProgressIsRead}
use Rattle.swarm_batch.proofs.Cuts.{same_mark, mark_line_some}

abbrev Good : List Mark → Type 0
Good marks = list_all is_mark marks ≡ true

good_parts : (m : Mark) (ms : List Mark) → Good (m ∷ ms) → (is_mark m ≡ true) × Good ms
good_parts m ms h = and_parts (is_mark m) (list_all is_mark ms) h

line_first : (line : ℕ) (m : Mark) (ms : List Mark) (rest : List ℕ) → mark_lines line (m ∷ ms) ++ rest ≡ mark_line line m ++ (mark_lines (line + 1) ms ++ rest)
line_first line m ms rest = append_assoc (mark_line line m) (mark_lines (line + 1) ms) rest

-- other lines of marks tell other marks
pub same_marks : (line : ℕ) (ms ns : List Mark) → line + length ms < 2 ^ 64 → Good ms → Good ns → mark_lines line ms ≡ mark_lines line ns → ms ≡ ns
same_marks line [] [] small h g e = refl
same_marks line [] (n ∷ ns) small h g e = elim (mark_line_some line n (mark_lines (line + 1) ns) (sym e)) [ ]
same_marks line (m ∷ ms) [] small h g e = elim (mark_line_some line m (mark_lines (line + 1) ms) e) [ ]
same_marks line (m ∷ ms) (n ∷ ns) small h g e =
    let hs = good_parts m ms h in
    let gs = good_parts n ns g in
    let first = same_mark line m n (mark_lines (line + 1) ms) (mark_lines (line + 1) ns) (omega (arith, small)) hs.0 gs.0 e in
    let rest = same_marks (line + 1) ms ns (omega (arith, small)) hs.1 gs.1 first.1 in
    cc

-- a progress is that of one list of marks
pub one_progress : (lines : ℕ) (head : List ℕ) (ms ns : List Mark) → lines ≤ 4096 → AreMarks lines ms → AreMarks lines ns → progress_text head ms ≡ progress_text head ns → ms ≡ ns
one_progress lines head ms ns few are other e =
    same_marks 1 ms ns (omega (arith, few, are.few)) are.good other.good
    (append_cancel_left (codes "\n") (mark_lines 1 ms) (mark_lines 1 ns) (append_cancel_left head (codes "\n" ++ mark_lines 1 ms) (codes "\n" ++ mark_lines 1 ns) e))

-- where the lines of marks go on behind some of them, there is the next mark
pub next_mark : (line : ℕ) (ms ns : List Mark) (rest : List ℕ) → line + length ms < 2 ^ 64 → Good ms → Good ns → mark_lines line ms ≡ mark_lines line ns ++ rest → rest ≢ []
    → (length ns < length ms) × (HasNoMark (line + length ns) rest → ⊥)
next_mark line [] [] rest small h g e left = elim (left (sym e)) [ ]
next_mark line [] (n ∷ ns) rest small h g e left = elim (mark_line_some line n (mark_lines (line + 1) ns ++ rest) (sym (line_first line n ns rest) ∙ sym e)) [ ]
next_mark line (m ∷ ms) [] rest small h g e left =
    let hs = good_parts m ms h in
    let at : line + length {A = Mark} [] ≡ line = omega arith in
    (omega arith, λ no. no m (mark_lines (line + 1) ms) hs.0 (sym e ∙ ap (λ (n : ℕ). mark_line n m ++ mark_lines (line + 1) ms) (sym at)))
next_mark line (m ∷ ms) (n ∷ ns) rest small h g e left =
    let hs = good_parts m ms h in
    let gs = good_parts n ns g in
    let first = same_mark line m n (mark_lines (line + 1) ms) (mark_lines (line + 1) ns ++ rest) (omega (arith, small)) hs.0 gs.0 (e ∙ line_first line n ns rest) in
    let more = next_mark (line + 1) ms ns rest (omega (arith, small)) hs.1 gs.1 first.1 left in
    let at : (line + 1) + length ns ≡ line + length (n ∷ ns) = omega arith in
    (omega (arith, more.0), λ no. more.1 (subst (λ (k : ℕ). HasNoMark k rest) (sym at) no))

abbrev Gives : List Mark → Result (List Mark) BatchFault → Type 0
Gives marks result = IsOrMemory marks result

wrong : (lines : ℕ) (head : List ℕ) (marks : List Mark) (line : ℕ) (body : List ℕ) → lines ≤ 4096 → AreMarks lines marks
    → progress_text head marks ≡ head ++ (codes "\n" ++ body) → GoesWrong lines body line → ⊥
wrong lines head marks line body few are e w =
    let same : mark_lines 1 marks ≡ body = append_cancel_left (codes "\n") (mark_lines 1 marks) body (append_cancel_left head (codes "\n" ++ mark_lines 1 marks) (codes "\n" ++ body) e) in
    let next = next_mark 1 marks w.marks w.rest (omega (arith, few, are.few)) are.good w.before.good (same ∙ w.whole) w.left in
    let at : 1 + length w.marks ≡ line = omega (arith, w.next) in
    next.1 (subst (λ (k : ℕ). HasNoMark k w.rest) (sym at) (w.wrong (omega (arith, w.next, next.0, are.few))))

pub progress_is_read : ProgressIsRead
progress_is_read lines head marks (Ok read) few are h =
    inl (ap (λ (ms : List Mark). Ok ms) (sym (one_progress lines head marks read few are h.0 h.1)))
progress_is_read lines head marks (Err fault.Memory) few are h = inr refl
progress_is_read lines head marks (Err (fault.Broken line rule.Changed)) few are h = elim (h.1 (mark_lines 1 marks) refl) [ ]
progress_is_read lines head marks (Err (fault.Broken line rule.Progress)) few are h = elim (wrong lines head marks line h.0 few are h.1 h.2) [ ]
progress_is_read lines head marks (Err (fault.Broken line other)) few are h = elim h [ ]
