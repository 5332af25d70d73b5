-- The ids of tasks and of runs are read as the numbers that they were made of.
use Rattle.std.proofs.Common.{◌≡◌, ℕ, zero, suc, ◌+◌, ◌*◌, ◌/◌, ◌%◌, ◌<◌, ◌≤◌, ◌==◌, ◌&&◌, nat_lt, nat_le, Bool, true, false, List, [], ◌∷◌, ◌++◌, length, slice_index, Ok, Err, refl, sym, ap, ◌∙◌, arith}
use Rattle.std.specs.Prelude.{if◌then◌else◌}
use Rattle.std.specs.List.{list_all}
use Rattle.std.specs.Str.{IsUtf8}
use Rattle.std.specs.Str.Parse.{digits_value}
use Rattle.std.specs.Fmt.{digits, digits_onto, digit_glyph}
use Rattle.std.specs.Char.{digit_value}
use Rattle.std.proofs.lemmas.Bool.{and_parts, and_from, not_from_false, agree_below_at, eqb-true, eqb-false, ne_eqb, le-leb}
use Rattle.std.proofs.lemmas.Fmt.{digits_is_IsNumeral, hex_one_digit}
use Rattle.std.proofs.lemmas.Int.Digits.{digits_value_push}
use Rattle.json.proofs.Printed.Utf8.{are_ascii, IsUtf8-are_ascii}
use Rattle.task_props.specs.declared.prop_rule.PropRule.TheVariants.{Grammar}
use Rattle.task_props.specs.Digests.{is_hex_digit}
use Rattle.json_fields.specs.Ids.{shown_number, task_id, run_id, has_id_form, is_try, id_of, run_of}
use Rattle.wire_laws.specs.Fitting.{IsPlace, IsTaskNumber, IsRun}

-- ---- digits in front of others

abbrev onto : ℕ → ℕ → List ℕ → List ℕ
onto k n more = digits_onto k 16 false n more

either : (b : Bool) (x y more : List ℕ) → (if b then x ++ more else y ++ more) ≡ (if b then x else y) ++ more
either true x y more = refl
either false x y more = refl

onto-append : (k n : ℕ) (first more : List ℕ) → onto k n (first ++ more) ≡ onto k n first ++ more
onto-append zero n first more = refl
onto-append (suc k) n first more =
    let glyph = digit_glyph false (n % 16) in
    ap (λ (y : List ℕ). if n / 16 == 0 then glyph ∷ (first ++ more) else y) (onto-append k (n / 16) (glyph ∷ first) more)
    ∙ either (n / 16 == 0) (glyph ∷ first) (onto k (n / 16) (glyph ∷ first)) more

digits-append : (n : ℕ) (more : List ℕ) → digits 16 false n ++ more ≡ onto 64 n more
unfolding digits
digits-append n more = sym (onto-append 64 n [] more)

-- ---- each digit is one that ids have, and ASCII

abbrev is_shown : ℕ → Bool
is_shown c = is_hex_digit c && nat_lt c 128

abbrev are_shown : List ℕ → Bool
are_shown s = list_all is_hex_digit s && are_ascii s

glyph_is_shown : (d : ℕ) → d < 16 → is_shown (digit_glyph false d) ≡ true
glyph_is_shown d low = agree_below_at (λ d. is_shown (digit_glyph false d)) (λ d. true) 16 d refl low

one_more : (c : ℕ) (s : List ℕ) → is_shown c ≡ true → are_shown s ≡ true → are_shown (c ∷ s) ≡ true
one_more c s h more =
    let one = and_parts (is_hex_digit c) (nat_lt c 128) h in
    let others = and_parts (list_all is_hex_digit s) (are_ascii s) more in
    and_from _ _ (and_from _ _ one.0 others.0) (and_from _ _ one.1 others.1)

shown_either : (b : Bool) (x y : List ℕ) → are_shown x ≡ true → are_shown y ≡ true → are_shown (if b then x else y) ≡ true
shown_either true x y h g = h
shown_either false x y h g = g

onto_is_shown : (k n : ℕ) (more : List ℕ) → are_shown more ≡ true → are_shown (onto k n more) ≡ true
onto_is_shown zero n more h = h
onto_is_shown (suc k) n more h =
    let one = one_more (digit_glyph false (n % 16)) more (glyph_is_shown (n % 16) (omega arith)) h in
    shown_either (n / 16 == 0) _ _ one (onto_is_shown k (n / 16) (digit_glyph false (n % 16) ∷ more) one)

-- ---- the first digit, and how many there are

-- so many numbers have at most k digits
abbrev numbers_of : ℕ → ℕ
numbers_of zero = 1
numbers_of (suc k) = 16 * numbers_of k

glyph_of_some : (d : ℕ) → 0 < d → d < 16 → (digit_glyph false d == 48) ≡ false
glyph_of_some d some low =
    ne_eqb (digit_glyph false d) 48 (λ e. absurd (omega (
      arith,
      some,
      eqb-true d 0 (sym (agree_below_at (λ d. digit_glyph false d == 48) (λ d. d == 0) 16 d refl low) ∙ ap (λ c. c == 48) e),
    )))

first_either : (b : Bool) (c : ℕ) (more rest : List ℕ) → (b ≡ true → (c == 48) ≡ false) → (b ≡ false → (slice_index rest 0 == 48) ≡ false)
    → (slice_index (if b then c ∷ more else rest) 0 == 48) ≡ false
first_either true c more rest h g = h refl
first_either false c more rest h g = g refl

onto_first : (k n : ℕ) (more : List ℕ) → 0 < n → n < numbers_of k → (slice_index (onto k n more) 0 == 48) ≡ false
onto_first zero n more some low = absurd (omega (arith, some, low))
onto_first (suc k) n more some low =
    first_either (n / 16 == 0) (digit_glyph false (n % 16)) more (onto k (n / 16) (digit_glyph false (n % 16) ∷ more))
    (λ e. let none = eqb-true (n / 16) 0 e in glyph_of_some (n % 16) (omega (arith, none, some)) (omega arith))
    (λ e.
    let left : 0 < n / 16 = some_of (n / 16) e in
    onto_first k (n / 16) (digit_glyph false (n % 16) ∷ more) left (omega (arith, low)))
  where
    some_of : (m : ℕ) → (m == 0) ≡ false → 0 < m
    some_of zero e = absurd (cc)
    some_of (suc m) e = omega arith

length_either : (b : Bool) (x y : List ℕ) (most : ℕ) → (b ≡ true → length x ≤ most) → (b ≡ false → length y ≤ most) → length (if b then x else y) ≤ most
length_either true x y most h g = h refl
length_either false x y most h g = g refl

onto_length : (digits_ k n : ℕ) (more : List ℕ) → n < numbers_of (suc digits_) → digits_ < k → length (onto k n more) ≤ suc digits_ + length more
onto_length digits_ zero n more low room = absurd (omega (arith, room))
onto_length zero (suc k) n more low room =
    length_either (n / 16 == 0) _ _ _ (λ e. omega arith)
    (λ e. absurd (eqb-false (n / 16) 0 e (omega (arith, low))))
onto_length (suc digits_) (suc k) n more low room =
    length_either (n / 16 == 0) _ _ _ (λ e. omega arith)
    (λ e. omega (arith, onto_length digits_ k (n / 16) (digit_glyph false (n % 16) ∷ more) (omega (arith, low)) (omega (arith, room))))

some_length : (b : Bool) (c : ℕ) (more y : List ℕ) → length more < length y → length more < length (if b then c ∷ more else y)
some_length true c more y h = omega arith
some_length false c more y h = h

onto_longer : (k n : ℕ) (more : List ℕ) → length more < length (onto (suc k) n more)
onto_longer zero n more = some_length (n / 16 == 0) (digit_glyph false (n % 16)) more _ (omega arith)
onto_longer (suc k) n more =
    some_length (n / 16 == 0) (digit_glyph false (n % 16)) more _ (omega (arith, onto_longer k (n / 16) (digit_glyph false (n % 16) ∷ more)))

-- ---- ids

-- the digits of a number, and behind them the number of a try
abbrev id_text : ℕ → ℕ → List ℕ
id_text n try_no = digits 16 false n ++ (48 + try_no) ∷ []

low_number : (place task : ℕ) → IsPlace place → IsTaskNumber task → (0 < shown_number place task) × (shown_number place task ≤ 1048576)
low_number place task p t = (omega (arith, t.0), omega (arith, p, t.1))

abbrev digit_value_of : ℕ → ℕ
digit_value_of t = digit_value (48 + t)

id_value : (n try_no : ℕ) → n ≤ 1048576 → try_no < 3 → digits_value 16 (id_text n try_no) ≡ n * 16 + try_no
id_value n try_no low few =
    digits_value_push 16 (digits 16 false n) (48 + try_no)
    ∙ ap (λ v. v * 16 + digit_value_of try_no) (digits_is_IsNumeral 16 false (omega arith) (omega arith) n (omega (arith, low))).1
    ∙ ap (λ d. n * 16 + d) (eqb-true _ _ (agree_below_at (λ t. digit_value_of t == t) (λ t. true) 3 try_no refl few))

form_of : (s : List ℕ) → 1 < length s → length s ≤ 7 → are_shown s ≡ true → (slice_index s 0 == 48) ≡ false → (has_id_form s ≡ true) × (are_ascii s ≡ true)
form_of s least most all first =
    let shown = and_parts (list_all is_hex_digit s) (are_ascii s) all in (
      and_from _ _ (and_from _ _ (le-leb 2 (length s) (omega (arith, least))) (le-leb (length s) 7 most)) (and_from _ _ shown.0 (not_from_false _ first)),
      shown.1,
    )

id_form : (n try_no : ℕ) → 0 < n → n ≤ 1048576 → try_no < 3 → (has_id_form (id_text n try_no) ≡ true) × (are_ascii (id_text n try_no) ≡ true)
id_form n try_no some low few =
    let last = (48 + try_no) ∷ [] in
    let is = digits-append n last in
    let form =
    form_of (onto 64 n last) (onto_longer 63 n last) (onto_length 5 64 n last (omega (arith, low)) (omega arith))
    (onto_is_shown 64 n last (one_more (48 + try_no) [] (agree_below_at (λ t. is_shown (48 + t)) (λ t. true) 3 try_no refl few) refl))
    (onto_first 64 n last some (omega (arith, low))) in
    (ap has_id_form is ∙ form.0, ap are_ascii is ∙ form.1)

last_of : (n try_no : ℕ) → try_no < 3 → (n * 16 + try_no) % 16 ≡ try_no
last_of n try_no few = omega arith

if_id : (form : Bool) (v w : ℕ) → form ≡ true → v ≡ w → nat_le (w % 16) 2 ≡ true → (if form && nat_le (v % 16) 2 then Ok v else Err Grammar) ≡ Ok w
if_id form v w f e few = rw (f, e, few) refl

if_run : (form : Bool) (v w : ℕ) → form ≡ true → v ≡ w → is_try (w % 16) ≡ true → (if form && is_try (v % 16) then Ok v else Err Grammar) ≡ Ok w
if_run form v w f e few = rw (f, e, few) refl

module _ (n try_no : ℕ) (some : 0 < n) (low : n ≤ 1048576) (few : try_no < 3) where
  id_is : id_of (id_text n try_no) ≡ Ok (n * 16 + try_no)
  unfolding id_of
  id_is =
      if_id (has_id_form (id_text n try_no)) (digits_value 16 (id_text n try_no)) (n * 16 + try_no) (id_form n try_no some low few).0 (id_value n try_no low few)
      (ap (λ r. nat_le r 2) (last_of n try_no few) ∙ le-leb try_no 2 (omega (arith, few)))

  run_is : 0 < try_no → run_of (id_text n try_no) ≡ Ok (n * 16 + try_no)
  unfolding run_of
  run_is one =
      if_run (has_id_form (id_text n try_no)) (digits_value 16 (id_text n try_no)) (n * 16 + try_no) (id_form n try_no some low few).0 (id_value n try_no low few)
      (ap is_try (last_of n try_no few) ∙ and_from _ _ (le-leb 1 try_no one) (le-leb try_no 2 (omega (arith, few))))

pub task_id_is : (place task : ℕ) → IsPlace place → IsTaskNumber task → id_of (task_id place task) ≡ Ok (shown_number place task * 16 + 0)
unfolding task_id
task_id_is place task p t = let n = low_number place task p t in id_is (shown_number place task) 0 n.0 n.1 (omega arith)

pub task_id_utf8 : (place task : ℕ) → IsPlace place → IsTaskNumber task → IsUtf8 (task_id place task)
unfolding task_id
task_id_utf8 place task p t = let n = low_number place task p t in IsUtf8-are_ascii (task_id place task) (id_form (shown_number place task) 0 n.0 n.1 (omega arith)).1

-- the number of a first or a second try is one digit
try_digit : (place : ℕ) (run : ℕ × ℕ) → IsRun run → run_id place run ≡ id_text (shown_number place run.0) run.1
unfolding run_id
try_digit place run h =
    ap (λ s. digits 16 false (shown_number place run.0) ++ s)
    (hex_one_digit false run.1 (omega (arith, h.2)) ∙ ap (λ (c : ℕ). c ∷ []) (eqb-true _ _ (agree_below_at (λ t. digit_glyph false t == 48 + t) (λ t. true) 3 run.1 refl (omega (arith, h.2)))))

pub run_id_is : (place : ℕ) (run : ℕ × ℕ) → IsPlace place → IsRun run → run_of (run_id place run) ≡ Ok (shown_number place run.0 * 16 + run.1)
run_id_is place run p h =
    let n = low_number place run.0 p h.0 in
    ap run_of (try_digit place run h) ∙ run_is (shown_number place run.0) run.1 n.0 n.1 (omega (arith, h.2)) h.1

pub run_id_utf8 : (place : ℕ) (run : ℕ × ℕ) → IsPlace place → IsRun run → IsUtf8 (run_id place run)
run_id_utf8 place run p h =
    let n = low_number place run.0 p h.0 in
    IsUtf8-are_ascii (run_id place run) (ap are_ascii (try_digit place run h) ∙ (id_form (shown_number place run.0) run.1 n.0 n.1 (omega (arith, h.2))).1)
