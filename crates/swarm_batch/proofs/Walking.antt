-- The lines of a progress, one after the other.
use Rattle.std.proofs.Common.{◌≡◌, ◌≢◌, ℕ, suc, ◌+◌, ◌<◌, ◌≤◌, ◌^◌, true, false, List, [], ◌∷◌, ◌++◌, length, take, drop, get_or, Option, Some, None, Result, Ok, Err, refl, sym, ap, ◌∙◌, subst, append_assoc, append-nil, true≢false, length-append, add-one, arith}
use Rattle.std.specs.Prelude.{codes, decimal, nat_eq, IfOk, IfSome}
use Rattle.std.specs.Cmp.Lexicographic.{pointwise}
use Rattle.std.proofs.lemmas.Slice.Eq.{bytes_eq-Decides}
use Rattle.std.specs.List.{flat_map, list_all}
use Rattle.std.proofs.Math.Seq.{drop-cons, take-suc, take-append_seam, take-length}
use Rattle.std.proofs.lemmas.Bool.{and_from}
use Rattle.std.proofs.lemmas.List.{take-append-drop, append_cancel_left, append_cancel_right}
use Rattle.std.proofs.lemmas.List.Concat.{flat_map-append, flat_map-cons}
use Rattle.std.proofs.lemmas.List.Elements.{All-get_or}
use Rattle.std.proofs.lemmas.List.Folds.{list_all-append}
use Rattle.swarm_batch.specs.declared.faults.BatchRule.TheVariants as rule
use Rattle.swarm_batch.specs.declared.faults.BatchFault.{BatchFault}
use Rattle.swarm_batch.specs.declared.faults.BatchFault.TheVariants as fault
use Rattle.swarm_batch.specs.declared.lines.Cut.{Cut}
use Rattle.swarm_batch.specs.declared.mark.Mark.{Mark}
use Rattle.swarm_batch.specs.Lines.{ended, IsOneLine, IsCut}
use Rattle.swarm_batch.specs.Marks.{is_mark, mark_word, mark_line, mark_lines}
use Rattle.swarm_batch.specs.Batches.{AreMarks}
use Rattle.swarm_batch.specs.Progress.{HasNoMark, GoesWrong, TellsMarks, TellsProgress, AddsMark}
use Rattle.swarm_batch.proofs.Marking.{mark_lines-one}
use Rattle.swarm_batch.proofs.Cuts.{one_first_line, no_line, mark_text, mark_line_is, mark_is_one_line, line_first}

-- ---- a line and its word

pub line_of_word : (line : ℕ) (m : Mark) (front text word : List ℕ) → front ≡ decimal line ++ codes " " → text ≡ front ++ word → mark_word m ≡ word → mark_line line m ≡ ended text
line_of_word line m front text word f t w =
    mark_line_is line m
    ∙ ap ended (sym (t ∙ ap (λ (x : List ℕ). x ++ word) f ∙ append_assoc (decimal line) (codes " ") word ∙ ap (λ (x : List ℕ). decimal line ++ (codes " " ++ x)) (sym w)))

pub word_of_line : (line : ℕ) (m : Mark) (front text : List ℕ) → front ≡ decimal line ++ codes " " → mark_line line m ≡ ended text → text ≡ front ++ mark_word m
word_of_line line m front text f e =
    append_cancel_right text (mark_text line m) (10 ∷ []) (sym e ∙ mark_line_is line m)
    ∙ sym (append_assoc (decimal line) (codes " ") (mark_word m)) ∙ ap (λ (x : List ℕ). x ++ mark_word m) (sym f)

pub same_rest : (front word rest text : List ℕ) → text ≡ front ++ word → text ≡ front ++ rest → rest ≡ word
same_rest front word rest text t e = append_cancel_left front rest word (sym e ∙ t)

-- ---- one mark more

pub more_marks : (most : ℕ) (marks : List Mark) (m : Mark) → AreMarks most marks → length marks < most → is_mark m ≡ true → AreMarks most (marks ++ m ∷ [])
more_marks most marks m are room good = record {
  few = (let n = length-append marks (m ∷ []) in omega (arith, n, room));
  good = list_all-append is_mark marks (m ∷ []) ∙ and_from (list_all is_mark marks) (list_all is_mark (m ∷ [])) are.good (and_from (is_mark m) true good refl);
}

pub more_lines : (marks : List Mark) (m : Mark) (lines : List (List ℕ)) (i : ℕ) (text : List ℕ) → mark_lines 1 marks ≡ flat_map ended (take i lines) → i < length lines
    → mark_line (length marks + 1) m ≡ ended (get_or lines i text) → mark_lines 1 (marks ++ m ∷ []) ≡ flat_map ended (take (i + 1) lines)
more_lines marks m lines i text so_far within is =
    let at : 1 + length marks ≡ length marks + 1 = omega arith in
    let one : take (i + 1) lines ≡ take i lines ++ get_or lines i text ∷ [] =
    ap (λ (n : ℕ). take n lines) (add-one i) ∙ take-suc lines i text within in
    mark_lines-one 1 marks m
    ∙ ap (λ (n : ℕ). mark_lines 1 marks ++ mark_line n m) at
    ∙ ap (λ (t : List ℕ). t ++ mark_line (length marks + 1) m) so_far
    ∙ ap (λ (t : List ℕ). flat_map ended (take i lines) ++ t) (is ∙ sym (flat_map-cons ended (get_or lines i text) [] ∙ append-nil (ended (get_or lines i text))))
    ∙ sym (flat_map-append ended (take i lines) (get_or lines i text ∷ []))
    ∙ ap (flat_map ended) (sym one)

-- ---- where it goes wrong

-- the lines before one, the line, and what follows
split_lines : (cut : Cut) (i : ℕ) (text : List ℕ) → i < length cut.lines
    → flat_map ended cut.lines ++ cut.rest ≡ flat_map ended (take i cut.lines) ++ (ended (get_or cut.lines i text) ++ (flat_map ended (drop (suc i) cut.lines) ++ cut.rest))
split_lines cut i text within =
    ap (λ (ls : List (List ℕ)). flat_map ended ls ++ cut.rest) (sym (take-append-drop i cut.lines))
    ∙ ap (λ (t : List ℕ). t ++ cut.rest) (flat_map-append ended (take i cut.lines) (drop i cut.lines))
    ∙ append_assoc (flat_map ended (take i cut.lines)) (flat_map ended (drop i cut.lines)) cut.rest
    ∙ ap (λ (ls : List (List ℕ)). flat_map ended (take i cut.lines) ++ (flat_map ended ls ++ cut.rest)) (drop-cons cut.lines i text within)
    ∙ ap (λ (t : List ℕ). flat_map ended (take i cut.lines) ++ t) (line_first (get_or cut.lines i text) (drop (suc i) cut.lines) cut.rest)

ended_some : (line rest : List ℕ) → ended line ++ rest ≢ []
ended_some line rest e = no_line line rest [] refl (sym e)

no_mark : (line : ℕ) (text tail : List ℕ) → line < 2 ^ 64 → IsOneLine text → ((m : Mark) → is_mark m ≡ true → mark_line line m ≢ ended text) → HasNoMark line (ended text ++ tail)
no_mark line text tail small one none m more good e =
    let same = one_first_line text (mark_text line m) tail more one (mark_is_one_line line m small good) (e ∙ ap (λ (t : List ℕ). t ++ more) (mark_line_is line m)) in
    none m good (mark_line_is line m ∙ ap ended (sym same.0))

pub stops_at : (most : ℕ) (body : List ℕ) (cut : Cut) (marks new : List Mark) (i : ℕ) (text : List ℕ) (e : BatchFault) → most ≤ 4096 → IsCut body cut → AreMarks most marks
    → mark_lines 1 marks ≡ flat_map ended (take i cut.lines) → i < length cut.lines → AddsMark most (get_or cut.lines i text) marks new (Err e) → TellsMarks most body (Err e)
stops_at most body cut marks new i text fault.Memory few is are so_far within adds = tt
stops_at most body cut marks new i text (fault.Broken line rule.Progress) few is are so_far within adds = record {
  marks = marks;
  rest = ended (get_or cut.lines i text) ++ (flat_map ended (drop (suc i) cut.lines) ++ cut.rest);
  before = are;
  next = adds.0;
  whole = is.whole ∙ split_lines cut i text within ∙ ap (λ (t : List ℕ). t ++ (ended (get_or cut.lines i text) ++ (flat_map ended (drop (suc i) cut.lines) ++ cut.rest))) (sym so_far);
  left = ended_some (get_or cut.lines i text) (flat_map ended (drop (suc i) cut.lines) ++ cut.rest);
  wrong = λ low. no_mark line (get_or cut.lines i text) (flat_map ended (drop (suc i) cut.lines) ++ cut.rest) (omega (arith, low, few)) (All-get_or IsOneLine cut.lines i text within is.lines) (adds.1 low);
}
stops_at most body cut marks new i text (fault.Broken line other) few is are so_far within adds = elim adds [ ]

pub stops_behind : (most : ℕ) (body : List ℕ) (cut : Cut) (marks : List Mark) → IsCut body cut → AreMarks most marks → mark_lines 1 marks ≡ flat_map ended cut.lines → cut.rest ≢ []
    → GoesWrong most body (length marks + 1)
stops_behind most body cut marks is are all left = record {
  marks = marks;
  rest = cut.rest;
  before = are;
  next = refl;
  whole = is.whole ∙ ap (λ (t : List ℕ). t ++ cut.rest) (sym all);
  left = left;
  wrong = λ low m more good e. no_line (mark_text (length marks + 1) m) more cut.rest is.rest (e ∙ ap (λ (t : List ℕ). t ++ more) (mark_line_is (length marks + 1) m));
}

pub ends_well : (most : ℕ) (body : List ℕ) (cut : Cut) (marks : List Mark) → IsCut body cut → AreMarks most marks → mark_lines 1 marks ≡ flat_map ended cut.lines → cut.rest ≡ []
    → TellsMarks most body (Ok marks)
ends_well most body cut marks is are all none = (are, is.whole ∙ ap (λ (t : List ℕ). flat_map ended cut.lines ++ t) none ∙ append-nil (flat_map ended cut.lines) ∙ sym all)

-- ---- a text behind another

pub stripped : (s p x : List ℕ) → pointwise nat_eq (take (length p) s) p ≡ true → x ≡ drop (length p) s → s ≡ p ++ x
stripped s p x h e =
    sym (take-append-drop (length p) s) ∙ ap (λ (t : List ℕ). t ++ drop (length p) s) ((bytes_eq-Decides (take (length p) s) p).0 h) ∙ ap (λ (t : List ℕ). p ++ t) (sym e)

pub not_stripped : (s p x : List ℕ) → pointwise nat_eq (take (length p) s) p ≡ false → s ≡ p ++ x → ⊥
not_stripped s p x h e = true≢false (sym ((bytes_eq-Decides (take (length p) s) p).1 (ap (take (length p)) e ∙ take-append_seam p x)) ∙ h)

-- ---- the mark of a line

pub line_is : {E : Type 0} (r : Result (Option Mark) E) (line : ℕ) (front text word : List ℕ) → front ≡ decimal line ++ codes " " → text ≡ front ++ word
    → IfOk r (λ o. IfSome o (λ m. (is_mark m ≡ true) × (mark_word m ≡ word))) → IfOk r (λ o. IfSome o (λ m. (is_mark m ≡ true) × (mark_line line m ≡ ended text)))
line_is (Ok None) line front text word f t h = tt
line_is (Ok (Some m)) line front text word f t h = (h.0, line_of_word line m front text word f t h.1)
line_is (Err e) line front text word f t h = tt

pub line_found : {E : Type 0} (r : Result (Option Mark) E) (line : ℕ) (front text word : List ℕ) → front ≡ decimal line ++ codes " " → text ≡ front ++ word
    → IfOk r (λ o. (m : Mark) → is_mark m ≡ true → mark_word m ≡ word → o ≡ Some m) → IfOk r (λ o. (m : Mark) → is_mark m ≡ true → mark_line line m ≡ ended text → o ≡ Some m)
line_found (Ok o) line front text word f t h = λ m good e. h m good (same_rest front word (mark_word m) text t (word_of_line line m front text f e))
line_found (Err x) line front text word f t h = tt

-- ---- a progress

pub tells_progress : (r : Result (List Mark) BatchFault) (most : ℕ) (head text body front : List ℕ) → front ≡ head ++ codes "\n" → text ≡ front ++ body → TellsMarks most body r → TellsProgress most head text r
tells_progress (Ok marks) most head text body front f t h =
    (h.0, t ∙ ap (λ (x : List ℕ). x ++ body) f ∙ append_assoc head (codes "\n") body ∙ ap (λ (x : List ℕ). head ++ (codes "\n" ++ x)) h.1)
tells_progress (Err fault.Memory) most head text body front f t h = tt
tells_progress (Err (fault.Broken line rule.Progress)) most head text body front f t h = (body, t ∙ ap (λ (x : List ℕ). x ++ body) f ∙ append_assoc head (codes "\n") body, h)
tells_progress (Err (fault.Broken line other)) most head text body front f t h = elim h [ ]

pub other_head : (head text front rest : List ℕ) → front ≡ head ++ codes "\n" → pointwise nat_eq (take (length front) text) front ≡ false → text ≢ head ++ (codes "\n" ++ rest)
other_head head text front rest f h e = not_stripped text front rest h (e ∙ sym (append_assoc head (codes "\n") rest) ∙ ap (λ (x : List ℕ). x ++ rest) (sym f))

-- ---- one turn of the walk

pub stops : (most : ℕ) (body : List ℕ) (cut : Cut) (marks new : List Mark) (i : ℕ) (items : List (List ℕ)) (shown item : List ℕ) (e : BatchFault) → most ≤ 4096 → IsCut body cut
    → AreMarks most marks → mark_lines 1 marks ≡ flat_map ended (take i cut.lines) → items ≡ cut.lines → shown ≡ item → item ≡ get_or items i item → i < length items
    → AddsMark most shown marks new (Err e) → TellsMarks most body (Err e)
stops most body cut marks new i items shown item e few is are so_far same s g within adds =
    let at : shown ≡ get_or cut.lines i item = s ∙ g ∙ ap (λ (ls : List (List ℕ)). get_or ls i item) same in
    stops_at most body cut marks new i item e few is are so_far (subst (λ (ls : List (List ℕ)). i < length ls) same within) (subst (λ (x : List ℕ). AddsMark most x marks new (Err e)) at adds)

pub goes_on : (most : ℕ) (cut : Cut) (marks new : List Mark) (i : ℕ) (items : List (List ℕ)) (shown item : List ℕ) → AreMarks most marks
    → mark_lines 1 marks ≡ flat_map ended (take i cut.lines) → items ≡ cut.lines → shown ≡ item → item ≡ get_or items i item → i < length items
    → AddsMark most shown marks new (Ok tt) → AreMarks most new × (mark_lines 1 new ≡ flat_map ended (take (i + 1) cut.lines))
goes_on most cut marks new i items shown item are so_far same s g within adds =
    let at : shown ≡ get_or cut.lines i item = s ∙ g ∙ ap (λ (ls : List (List ℕ)). get_or ls i item) same in
    let m = adds.1.0 in
    let is : new ≡ marks ++ m ∷ [] = adds.1.3 in (
      subst (AreMarks most) (sym is) (more_marks most marks m are adds.0 adds.1.1),
      ap (mark_lines 1) is ∙ more_lines marks m cut.lines i item so_far (subst (λ (ls : List (List ℕ)). i < length ls) same within) (adds.1.2 ∙ ap ended at),
    )

pub walked : (marks : List Mark) (cut : Cut) (items : List (List ℕ)) (i : ℕ) → items ≡ cut.lines → i ≤ length items → length items ≤ i → mark_lines 1 marks ≡ flat_map ended (take i cut.lines)
    → mark_lines 1 marks ≡ flat_map ended cut.lines
walked marks cut items i same low past so_far =
    let all : i ≡ length items = omega (arith, low, past) in
    so_far ∙ ap (flat_map ended) (ap (λ (n : ℕ). take n cut.lines) (all ∙ ap length same) ∙ take-length cut.lines)
