-- A text is cut in one way, and a progress tells its marks in one way.
use Rattle.std.proofs.Common.{◌≡◌, ℕ, ◌*◌, ◌<◌, ◌^◌, true, List, [], ◌∷◌, ◌++◌, refl, sym, ap, ◌∙◌, append_assoc, lit<}
use Rattle.std.specs.Prelude.{codes, decimal}
use Rattle.std.specs.List.{All, flat_map}
use Rattle.std.specs.Str.Parse.{digits_value}
use Rattle.std.proofs.lemmas.Option.{same_Some}
use Rattle.std.proofs.lemmas.List.{append_cancel_left}
use Rattle.std.proofs.lemmas.List.Concat.{flat_map-cons}
use Rattle.std.proofs.lemmas.List.Elements.{All-head, All-tail}
use Rattle.refusal_codes.specs.declared.refusal_code.RefusalCode.{RefusalCode}
use Rattle.refusal_codes.specs.Codes.{code_name, code_named}
use Rattle.refusal_codes.proofs.CodeLemmas.{name_is_read}
use Rattle.json_fields.specs.Ids.{shown_number, task_id, place_of_id, task_of_id}
use Rattle.swarm_batch.specs.declared.mark.Mark.{Mark}
use Rattle.swarm_batch.specs.declared.mark.Mark.TheVariants as mark
use Rattle.swarm_batch.specs.Lines.{ended, IsOneLine}
use Rattle.swarm_batch.specs.Marks.{is_task, is_mark, mark_word, mark_line}
use Rattle.swarm_batch.proofs.Splitting.{split_first, lacks_split, lacks_append}
use Rattle.swarm_batch.proofs.Words.{decimal_lacks, word_lacks, id_number, id_place, id_task, no_refusal}

-- ---- lines

-- a line behind which more stands
pub ended-append : (line rest : List ℕ) → ended line ++ rest ≡ line ++ 10 ∷ rest
ended-append line rest = append_assoc line (10 ∷ []) rest

-- a first line is one line alone
pub one_first_line : (a b xs ys : List ℕ) → IsOneLine a → IsOneLine b → ended a ++ xs ≡ ended b ++ ys → (a ≡ b) × (xs ≡ ys)
one_first_line a b xs ys h g e = split_first 10 a b xs ys h g (sym (ended-append a xs) ∙ e ∙ ended-append b ys)

pub no_line : (a xs rest : List ℕ) → IsOneLine rest → rest ≡ ended a ++ xs → ⊥
no_line a xs rest h e = lacks_split 10 rest a xs h (e ∙ ended-append a xs)

-- the first of lines, in front of the others
pub line_first : (a : List ℕ) (ps : List (List ℕ)) (x : List ℕ) → flat_map ended (a ∷ ps) ++ x ≡ ended a ++ (flat_map ended ps ++ x)
line_first a ps x = ap (λ (t : List ℕ). t ++ x) (flat_map-cons ended a ps) ∙ append_assoc (ended a) (flat_map ended ps) x

-- ---- the lines of marks

abbrev pub mark_text : ℕ → Mark → List ℕ
mark_text line m = decimal line ++ (codes " " ++ mark_word m)

pub mark_line_is : (line : ℕ) (m : Mark) → mark_line line m ≡ ended (mark_text line m)
unfolding mark_line
mark_line_is line m = ap (λ (t : List ℕ). decimal line ++ t) (refl) ∙ sym (append_assoc (decimal line) (codes " " ++ mark_word m) (10 ∷ []))

-- the line of a mark isn't empty
pub mark_line_some : (line : ℕ) (m : Mark) (rest : List ℕ) → mark_line line m ++ rest ≡ [] → ⊥
mark_line_some line m rest e = no_line (mark_text line m) rest [] refl (sym e ∙ ap (λ (t : List ℕ). t ++ rest) (mark_line_is line m))

pub mark_is_one_line : (line : ℕ) (m : Mark) → line < 2 ^ 64 → is_mark m ≡ true → IsOneLine (mark_text line m)
mark_is_one_line line m small h =
    lacks_append 10 (decimal line) (codes " " ++ mark_word m) (decimal_lacks 10 line (lit< tt) small) (lacks_append 10 (codes " ") (mark_word m) refl (word_lacks m h))

-- ---- one word, one mark

same_task : (p t q u : ℕ) → is_task p t ≡ true → is_task q u ≡ true → task_id p t ≡ task_id q u → mark.Task p t ≡ mark.Task q u
same_task p t q u h g e =
    let number : shown_number p t * 16 ≡ shown_number q u * 16 = sym (id_number p t h) ∙ ap (digits_value 16) e ∙ id_number q u g in
    let place : p ≡ q = sym (id_place p t h) ∙ ap place_of_id number ∙ id_place q u g in
    let task : t ≡ u = sym (id_task p t h) ∙ ap task_of_id number ∙ id_task q u g in
    cc

same_code : (c d : RefusalCode) → code_name c ≡ code_name d → c ≡ d
same_code c d e = same_Some c d (sym (name_is_read c) ∙ ap code_named e ∙ name_is_read d)

pub same_word : (m n : Mark) → is_mark m ≡ true → is_mark n ≡ true → mark_word m ≡ mark_word n → m ≡ n
same_word (mark.Task p t) (mark.Task q u) h g e = same_task p t q u h g e
same_word (mark.Task p t) (mark.Refused d) h g e = elim (no_refusal p t (code_name d) h e) [ ]
same_word (mark.Refused c) (mark.Task q u) h g e = elim (no_refusal q u (code_name c) g (sym e)) [ ]
same_word (mark.Refused c) (mark.Refused d) h g e = ap mark.Refused (same_code c d (append_cancel_left (codes "!") (code_name c) (code_name d) e))

-- the line of a mark in front of others is of this mark
pub same_mark : (line : ℕ) (m n : Mark) (xs ys : List ℕ) → line < 2 ^ 64 → is_mark m ≡ true → is_mark n ≡ true → mark_line line m ++ xs ≡ mark_line line n ++ ys
    → (m ≡ n) × (xs ≡ ys)
same_mark line m n xs ys small h g e =
    let cut = one_first_line (mark_text line m) (mark_text line n) xs ys (mark_is_one_line line m small h) (mark_is_one_line line n small g)
    (ap (λ (t : List ℕ). t ++ xs) (sym (mark_line_is line m)) ∙ e ∙ ap (λ (t : List ℕ). t ++ ys) (mark_line_is line n)) in
    let words = append_cancel_left (codes " ") (mark_word m) (mark_word n) (append_cancel_left (decimal line) (codes " " ++ mark_word m) (codes " " ++ mark_word n) cut.0) in
    (same_word m n h g words, cut.1)

-- ---- a text is cut in one way

pub same_cut : (ps qs : List (List ℕ)) (x y : List ℕ) → All IsOneLine ps → All IsOneLine qs → IsOneLine x → IsOneLine y
    → flat_map ended ps ++ x ≡ flat_map ended qs ++ y → (ps ≡ qs) × (x ≡ y)
same_cut [] [] x y h g k l e = (refl, e)
same_cut [] (b ∷ qs) x y h g k l e = elim (no_line b (flat_map ended qs ++ y) x k (e ∙ line_first b qs y)) [ ]
same_cut (a ∷ ps) [] x y h g k l e = elim (no_line a (flat_map ended ps ++ x) y l (sym e ∙ line_first a ps x)) [ ]
same_cut (a ∷ ps) (b ∷ qs) x y h g k l e =
    let first = one_first_line a b (flat_map ended ps ++ x) (flat_map ended qs ++ y) (All-head IsOneLine a ps h) (All-head IsOneLine b qs g) (sym (line_first a ps x) ∙ e ∙ line_first b qs y) in
    let rest = same_cut ps qs x y (All-tail IsOneLine a ps h) (All-tail IsOneLine b qs g) k l first.1 in
    (cc, rest.1)
