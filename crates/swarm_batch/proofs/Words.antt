-- The word of a mark is read as that mark, and no line ends in it.
use Rattle.std.proofs.Common.{◌≡◌, ◌≢◌, ℕ, ◌+◌, ◌*◌, ◌<◌, ◌≤◌, ◌^◌, ◌==◌, nat_lt, Bool, true, false, List, [], ◌∷◌, ◌++◌, length, length-append, get_or, Option, Some, None, Result, Ok, Err, refl, sym, ap, ◌∙◌, subst, cond, option_map, option_and_then, not, true≢false, arith, lit<}
use Rattle.std.specs.Prelude.{codes, decimal, nat_eq, IfSome}
use Rattle.std.specs.Fmt.{digits}
use Rattle.std.specs.List.{find, list_all}
use Rattle.std.specs.Cmp.Lexicographic.{pointwise}
use Rattle.std.specs.Char.{digit_value}
use Rattle.std.specs.Str.{IsAscii, IsUtf8}
use Rattle.std.specs.Str.Parse.{AllDigits, IsNumeral, digits_value, without_leading_plus, ParsesUnsigned}
use Rattle.std.proofs.lemmas.Bool.{and_parts, ne_eqb, ltb-true, not_from_false}
use Rattle.std.proofs.lemmas.Fmt.{digits_is_IsNumeral, decimal_is_IsNumeral}
use Rattle.std.proofs.lemmas.Int.Digits.{digits_push, digits_value_push}
use Rattle.std.proofs.lemmas.List.{append_cancel_left}
use Rattle.std.proofs.lemmas.Option.{none-some, same_Some}
use Rattle.std.proofs.lemmas.Result.{Ok-from_Ok_iff}
use Rattle.std.proofs.lemmas.Slice.Eq.{bytes_eq-Decides}
use Rattle.std.proofs.lemmas.Str.Ascii.{IsAscii-nil, IsAscii-cons}
use Rattle.std.proofs.lemmas.Str.{IsUtf8-from_ascii}
use Rattle.std.proofs.lemmas.Str.Parse.{without_leading_plus_none}
use Rattle.refusal_codes.specs.declared.refusal_code.RefusalCode.{RefusalCode}
use Rattle.refusal_codes.specs.declared.refusal_code.RefusalCode.TheVariants as code
use Rattle.refusal_codes.specs.Codes.{code_name, code_named, all_codes, is_transient_code}
use Rattle.json_fields.specs.Ids.{shown_number, task_id, place_of_id, task_of_id}
use Rattle.swarm_batch.specs.declared.mark.Mark.{Mark}
use Rattle.swarm_batch.specs.declared.mark.Mark.TheVariants as mark
use Rattle.refusal_codes.proofs.CodeLemmas.{name_is_read}
use Rattle.swarm_batch.specs.Marks.{is_task, is_mark, mark_word, unless_transient, final_code, refused_by}
use Rattle.swarm_batch.proofs.Splitting.{Lacks, lacks_append}

-- ---- digits

digit_is_ascii : (c : ℕ) → digit_value c < 16 → (48 ≤ c) × (c < 128)
digit_is_ascii c h = (grind (arith, h), grind (arith, h))

digits_are_ascii : (cs : List ℕ) → AllDigits 16 cs → IsAscii cs
digits_are_ascii [] h = IsAscii-nil
digits_are_ascii (c ∷ cs) h = IsAscii-cons c cs (digit_is_ascii c h.0).1 (digits_are_ascii cs h.1)

-- what stands before the digits in ASCII is no digit
pub digits_lack : (d radix : ℕ) (cs : List ℕ) → d < 48 → radix ≤ 16 → AllDigits radix cs → Lacks d cs
digits_lack d radix [] low few h = refl
digits_lack d radix (c ∷ cs) low few h =
    let high = (digit_is_ascii c (omega (arith, h.0, few))).0 in
    let other : (c == d) ≡ false = ne_eqb c d (λ e. absurd (omega (arith, e, high, low))) in
    let rest = digits_lack d radix cs low few h.1 in
    grind (arith, other, rest)

pub decimal_lacks : (d n : ℕ) → d < 48 → n < 2 ^ 64 → Lacks d (decimal n)
decimal_lacks d n low small = digits_lack d 10 (decimal n) low (lit< tt) (decimal_is_IsNumeral n small).0.1

-- ---- ids

pub record IsTask (place task : ℕ) : Type 0 where
  pub low : place < 4
  pub some : 0 < task
  pub few : task ≤ 262144

pub is_task_parts : (place task : ℕ) → is_task place task ≡ true → IsTask place task
is_task_parts place task h = record { low = grind (arith, h); some = grind (arith, h); few = grind (arith, h) }

id_numeral : (place task : ℕ) → IsTask place task → IsNumeral 16 (task_id place task) × (digits_value 16 (task_id place task) ≡ shown_number place task * 16)
unfolding task_id
id_numeral place task t =
    let n = shown_number place task in
    let number = digits_is_IsNumeral 16 false (lit< tt) (lit< tt) n (omega (arith, t.low, t.few)) in
    let all = digits_push 16 (digits 16 false n) 48 number.0.1 (lit< tt) in
    let some : 0 < length (digits 16 false n ++ 48 ∷ []) = (let size = length-append (digits 16 false n) (48 ∷ []) in omega (arith, size)) in
    let value = digits_value_push 16 (digits 16 false n) 48 in
    ((some, all), value ∙ ap (λ (v : ℕ). v * 16 + 0) number.1 ∙ omega arith)

-- the number that its digits write
pub id_number : (place task : ℕ) → is_task place task ≡ true → digits_value 16 (task_id place task) ≡ shown_number place task * 16
id_number place task h = (id_numeral place task (is_task_parts place task h)).1

pub id_lacks : (d place task : ℕ) → d < 48 → is_task place task ≡ true → Lacks d (task_id place task)
id_lacks d place task low h = digits_lack d 16 (task_id place task) low (lit< tt) (id_numeral place task (is_task_parts place task h)).0.1

pub id_is_utf8 : (place task : ℕ) (s : List ℕ) → is_task place task ≡ true → task_id place task ≡ s → IsUtf8 s
id_is_utf8 place task s h e = subst IsUtf8 e (IsUtf8-from_ascii (task_id place task) (digits_are_ascii (task_id place task) (id_numeral place task (is_task_parts place task h)).0.1))

no_plus : (s : List ℕ) → IsNumeral 16 s → get_or s 0 0 ≢ 43
no_plus [] h e = let l = h.0 in absurd (omega (arith, l))
no_plus (c ∷ cs) h e = let high = (digit_is_ascii c h.1.0).0 in absurd (omega (arith, high, e))

-- its digits are read as the number that it shows
pub id_is_read : {E : Type 0} (place task : ℕ) (s : List ℕ) (r : Result ℕ E) → is_task place task ≡ true → task_id place task ≡ s → ParsesUnsigned 32 16 s r
    → r ≡ Ok (shown_number place task * 16)
id_is_read place task s r h e p =
    let t = is_task_parts place task h in
    let number = subst (λ (x : List ℕ). IsNumeral 16 x × (digits_value 16 x ≡ shown_number place task * 16)) e (id_numeral place task t) in
    let plain : without_leading_plus s ≡ s = without_leading_plus_none s (no_plus s number.0) in
    let small : digits_value 16 s < 2 ^ 32 = omega (arith, number.1, t.low, t.few) in
    Ok-from_Ok_iff r _ _ (rw plain at p) (number.0, small) ∙ ap (λ (v : ℕ). Ok v) number.1

pub id_place : (place task : ℕ) → is_task place task ≡ true → place_of_id (shown_number place task * 16) ≡ place
id_place place task h = let t = is_task_parts place task h in omega (arith, t.some, t.few)

pub id_task : (place task : ℕ) → is_task place task ≡ true → task_of_id (shown_number place task * 16) ≡ task
id_task place task h = let t = is_task_parts place task h in omega (arith, t.some, t.few)

-- ---- codes

found_in : (name : List ℕ) (cs : List RefusalCode) (c : RefusalCode) → find (λ c. pointwise nat_eq (code_name c) name) cs ≡ Some c → code_name c ≡ name
found_in name [] c e = elim (none-some c e) [ ]
found_in name (x ∷ xs) c e = by_first (found_in name xs c) (pointwise nat_eq (code_name x) name) refl e
  where
    by_first : (find (λ c. pointwise nat_eq (code_name c) name) xs ≡ Some c → code_name c ≡ name) → (b : Bool) → pointwise nat_eq (code_name x) name ≡ b
        → cond b (Some x) (find (λ c. pointwise nat_eq (code_name c) name) xs) ≡ Some c → code_name c ≡ name
    by_first later true is h = ap code_name (sym (same_Some x c h)) ∙ (bytes_eq-Decides (code_name x) name).0 is
    by_first later false is h = later h

-- the code that is found by a name has it
pub named_code : (name : List ℕ) (c : RefusalCode) → code_named name ≡ Some c → code_name c ≡ name
unfolding code_named
named_code name c e = found_in name all_codes c e

are_low : List ℕ → Bool
are_low bytes = list_all (λ byte. nat_lt byte 128) bytes

low_is_ascii : (bytes : List ℕ) → are_low bytes ≡ true → IsAscii bytes
unfolding are_low
low_is_ascii [] h = IsAscii-nil
low_is_ascii (b ∷ bs) h =
    let parts = and_parts (nat_lt b 128) (list_all (λ byte. nat_lt byte 128) bs) h in
    IsAscii-cons b bs (ltb-true b 128 parts.0) (low_is_ascii bs parts.1)

low_name : (c : RefusalCode) → are_low (code_name c) ≡ true
unfolding are_low
low_name code.BadHead = refl
low_name code.LengthRequired = refl
low_name code.TooLarge = refl
low_name code.NoRoute = refl
low_name code.BadMethod = refl
low_name code.BadJson = refl
low_name code.BadField = refl
low_name code.NoCaller = refl
low_name code.Denied = refl
low_name code.NoPool = refl
low_name code.NoTask = refl
low_name code.NoBot = refl
low_name code.UuidReused = refl
low_name code.BotUnfit = refl
low_name code.BotBusy = refl
low_name code.ClaimOver = refl
low_name code.NotClaimant = refl
low_name code.AttemptOver = refl
low_name code.OutputGap = refl
low_name code.OutputOverlap = refl
low_name code.BlobMissing = refl
low_name code.DigestDiffers = refl
low_name code.StoreFull = refl
low_name code.PoolTasksFull = refl
low_name code.PoolBotsFull = refl
low_name code.LogFull = refl
low_name code.FrontAhead = refl
low_name code.KeeperFault = refl
low_name code.WantOfMemory = refl
low_name code.OutputGone = refl

pub name_is_utf8 : (c : RefusalCode) → IsUtf8 (code_name c)
name_is_utf8 c = IsUtf8-from_ascii (code_name c) (low_is_ascii (code_name c) (low_name c))

pub name_lacks : (c : RefusalCode) → Lacks 10 (code_name c)
name_lacks code.BadHead = refl
name_lacks code.LengthRequired = refl
name_lacks code.TooLarge = refl
name_lacks code.NoRoute = refl
name_lacks code.BadMethod = refl
name_lacks code.BadJson = refl
name_lacks code.BadField = refl
name_lacks code.NoCaller = refl
name_lacks code.Denied = refl
name_lacks code.NoPool = refl
name_lacks code.NoTask = refl
name_lacks code.NoBot = refl
name_lacks code.UuidReused = refl
name_lacks code.BotUnfit = refl
name_lacks code.BotBusy = refl
name_lacks code.ClaimOver = refl
name_lacks code.NotClaimant = refl
name_lacks code.AttemptOver = refl
name_lacks code.OutputGap = refl
name_lacks code.OutputOverlap = refl
name_lacks code.BlobMissing = refl
name_lacks code.DigestDiffers = refl
name_lacks code.StoreFull = refl
name_lacks code.PoolTasksFull = refl
name_lacks code.PoolBotsFull = refl
name_lacks code.LogFull = refl
name_lacks code.FrontAhead = refl
name_lacks code.KeeperFault = refl
name_lacks code.WantOfMemory = refl
name_lacks code.OutputGone = refl

-- ---- words

-- no line ends in a word
pub word_lacks : (m : Mark) → is_mark m ≡ true → Lacks 10 (mark_word m)
word_lacks (mark.Task place task) h = id_lacks 10 place task (lit< tt) h
word_lacks (mark.Refused c) h = lacks_append 10 (codes "!") (code_name c) refl (name_lacks c)

-- an id doesn't begin as the word of a refusal does
pub no_refusal : (place task : ℕ) (rest : List ℕ) → is_task place task ≡ true → task_id place task ≡ codes "!" ++ rest → ⊥
no_refusal place task rest h e =
    let lacks : Lacks 33 (codes "!" ++ rest) = subst (Lacks 33) e (id_lacks 33 place task (lit< tt) h) in
    true≢false lacks

-- a name that isn't in UTF-8 is that of no code
pub unnamed : (name : List ℕ) → (IsUtf8 name → ⊥) → code_named name ≡ None
unnamed name wrong = by_code (code_named name) refl
  where
    by_code : (o : Option RefusalCode) → code_named name ≡ o → o ≡ None
    by_code None e = refl
    by_code (Some c) e = elim (wrong (subst IsUtf8 (named_code name c e) (name_is_utf8 c))) [ ]

pub no_final : (name : List ℕ) → (IsUtf8 name → ⊥) → final_code name ≡ None
no_final name wrong = ap (option_and_then unless_transient) (unnamed name wrong)

-- the mark of a refusal is found by its name
pub refused_found : (name word : List ℕ) (m : Mark) → is_mark m ≡ true → mark_word m ≡ word → word ≡ codes "!" ++ name → refused_by name ≡ Some m
refused_found name word (mark.Task place task) h w e = elim (no_refusal place task name h (w ∙ e)) [ ]
refused_found name word (mark.Refused c) h w e =
    ap (λ (o : Option RefusalCode). option_map mark.Refused (option_and_then unless_transient o)) (ap code_named (sym same) ∙ name_is_read c)
    ∙ ap (λ (b : Bool). option_map mark.Refused (cond b None (Some c))) fine
  where
    same : code_name c ≡ name
    same = append_cancel_left (codes "!") (code_name c) name (w ∙ e)

    not_true : (b : Bool) → not b ≡ true → b ≡ false
    not_true true k = elim (true≢false (sym k)) [ ]
    not_true false k = refl

    fine : is_transient_code c ≡ false
    fine = not_true (is_transient_code c) h

-- the mark of a refusal has its name
pub refused_is : (name word : List ℕ) (o : Option Mark) → o ≡ refused_by name → word ≡ codes "!" ++ name → IfSome o (λ m. (is_mark m ≡ true) × (mark_word m ≡ word))
refused_is name word o e w = subst (λ (x : Option Mark). IfSome x (λ m. (is_mark m ≡ true) × (mark_word m ≡ word))) (sym e) (by_code (code_named name) refl)
  where
    by_fit : (c : RefusalCode) → code_name c ≡ name → (b : Bool) → is_transient_code c ≡ b
        → IfSome (option_map mark.Refused (cond b None (Some c))) (λ m. (is_mark m ≡ true) × (mark_word m ≡ word))
    by_fit c is true f = tt
    by_fit c is false f = (not_from_false (is_transient_code c) f, ap (λ (t : List ℕ). codes "!" ++ t) is ∙ sym w)

    by_code : (q : Option RefusalCode) → code_named name ≡ q → IfSome (option_map mark.Refused (option_and_then unless_transient q)) (λ m. (is_mark m ≡ true) × (mark_word m ≡ word))
    by_code None k = tt
    by_code (Some c) k = by_fit c (named_code name c k) (is_transient_code c) refl

-- the parts of an id
same_value : {E : Type 0} (a b : ℕ) (r : Result ℕ E) → r ≡ Ok a → r ≡ Ok b → a ≡ b
same_value a b r e f = cc

pub id_parts_read : {E : Type 0} (place task id : ℕ) (s : List ℕ) (r : Result ℕ E) → is_task place task ≡ true → task_id place task ≡ s → r ≡ Ok id → ParsesUnsigned 32 16 s r
    → (place_of_id id ≡ place) × (task_of_id id ≡ task)
id_parts_read place task id s r h e k p =
    let is : id ≡ shown_number place task * 16 = same_value id (shown_number place task * 16) r k (id_is_read place task s r h e p) in
    (ap place_of_id is ∙ id_place place task h, ap task_of_id is ∙ id_task place task h)

pub id_is_no_error : {E : Type 0} {A : Type 0} (place task : ℕ) (s : List ℕ) (x : E) → is_task place task ≡ true → task_id place task ≡ s → ParsesUnsigned {E = E} 32 16 s (Err x) → A
id_is_no_error place task s x h e p = let read = id_is_read place task s (Err x) h e p in absurd (cc)
