-- A value is read of its compact text, where its texts are UTF-8, its numbers fit 64 bits, its keys rise, and it nests no deeper than a reader allows.
use Rattle.std.proofs.Common.{Ordering, Less, Equal, Greater, ◌≡◌, ℕ, suc, ◌<◌, ◌≤◌, ◌-◌, ◌^◌, pos, negsuc, Bool, true, false, ◌&&◌, nat_lt, List, [], ◌∷◌, ◌++◌, map, Some, option_map, option_and_then, decimal, refl, sym, ap, ◌∙◌, arith, All}
use Rattle.std.specs.Prelude.{⊤}
use Rattle.std.specs.Str.{IsUtf8}
use Rattle.std.specs.Ordering.{nat_cmp, is_gt}
use Rattle.std.specs.Cmp.Lexicographic.{slice_cmp}
use Rattle.std.proofs.lemmas.Bool.{and_parts, ltb-true}
use Rattle.std.proofs.lemmas.Str.{IsUtf8-append, IsUtf8-nil, IsUtf8-from_ascii}
use Rattle.std.proofs.lemmas.Fmt.{IsAscii-decimal}
use Rattle.json.specs.Print.{quoted}
use Rattle.json.specs.Tree.{HasNumbers, ItemsHaveNumbers, MembersHaveNumbers}
use Rattle.json.proofs.Printed.Decimals.{IsNumber-decimal, IsNumber-signed_decimal}
use Rattle.json.proofs.Printed.Utf8.{are_ascii, IsUtf8-are_ascii, IsUtf8-quoted, IsUtf8-boolean}
use Rattle.serde_json.specs.Data.{Num, unsigned, negative, float, Data, null, boolean, number, string, array, object, Items, no_items, item, Members, no_members, member, put, depth, items_depth, members_depth}
use Rattle.serde_json.specs.Read.{of_json, of_items, of_members}
use Rattle.serde_json.specs.View.{items_of}
use Rattle.serde_json.specs.Written.{outline, items_outline, members_outline, compact_text, items_text, members_text, comma_if}
use Rattle.serde_json.proofs.Numbers.{number_of-decimal, number_of-negative}
use Rattle.json_fields.specs.Readings.{reading}
use Rattle.json_fields.proofs.BodyLemmas.{reading_some}
use Rattle.line_parts.proofs.ReadTexts.{read-compact_text}

-- ---- members whose keys rise

abbrev behind : Members → Members → Members
behind no_members more = more
behind (member k d ms) more = member k d (behind ms more)

-- a key that is above those of all these members
abbrev is_above : List ℕ → Members → Bool
is_above key no_members = true
is_above key (member k d ms) = is_gt (slice_cmp nat_cmp key k) && is_above key ms

-- each key is ASCII, and above those before it and those that were found earlier
abbrev pub are_rising : Members → Members → Bool
are_rising found no_members = true
are_rising found (member k d ms) = are_ascii k && (is_above k found && are_rising (behind found (member k d no_members)) ms)

greater_is : (o : Ordering) → is_gt o ≡ true → o ≡ Greater
greater_is Less h = absurd (cc)
greater_is Equal h = absurd (cc)
greater_is Greater h = refl

put_above : (k : List ℕ) (d : Data) (found : Members) → is_above k found ≡ true → put k d found ≡ behind found (member k d no_members)
put_above k d no_members h = refl
put_above k d (member l e ms) h = let p = and_parts _ _ h in rw (greater_is (slice_cmp nat_cmp k l) p.0) (ap (member l e) (put_above k d ms p.1))

behind_none : (ms : Members) → behind ms no_members ≡ ms
behind_none no_members = refl
behind_none (member k d ms) = ap (member k d) (behind_none ms)

behind_behind : (a b c : Members) → behind (behind a b) c ≡ behind a (behind b c)
behind_behind no_members b c = refl
behind_behind (member k d ms) b c = ap (member k d) (behind_behind ms b c)

-- ---- values that are read of their texts

abbrev pub FitsNumber : Num → Type 0
FitsNumber (unsigned n) = n < 2 ^ 64
FitsNumber (negative (pos n)) = ⊥
FitsNumber (negative (negsuc n)) = n < 2 ^ 63
FitsNumber (float x) = ⊥

abbrev mutual
  -- at most so many levels of arrays and objects
  pub IsReadable : ℕ → Data → Type 0
  IsReadable levels null = ⊤
  IsReadable levels (boolean b) = ⊤
  IsReadable levels (number n) = FitsNumber n
  IsReadable levels (string s) = IsUtf8 s
  IsReadable levels (array ds) = (nat_lt 0 levels ≡ true) × AreReadable (levels - 1) ds
  IsReadable levels (object ms) = (nat_lt 0 levels ≡ true) × (are_rising no_members ms ≡ true) × HasReadable (levels - 1) ms

  pub AreReadable : ℕ → Items → Type 0
  AreReadable levels no_items = ⊤
  AreReadable levels (item d ds) = IsReadable levels d × AreReadable levels ds

  pub HasReadable : ℕ → Members → Type 0
  HasReadable levels no_members = ⊤
  HasReadable levels (member k d ms) = IsReadable levels d × HasReadable levels ms

mutual
  value_back : (n : ℕ) (d : Data) → IsReadable n d → of_json (outline d) ≡ Some d
  value_back n null h = refl
  value_back n (boolean b) h = refl
  value_back n (number (unsigned m)) h = rw (number_of-decimal m h) refl
  value_back n (number (negative (pos m))) h = absurd h
  value_back n (number (negative (negsuc m))) h = rw (number_of-negative m h) refl
  value_back n (number (float x)) h = absurd h
  value_back n (string s) h = refl
  value_back n (array ds) h = ap (option_map array) (items_back (n - 1) ds h.1)
  value_back n (object ms) h = ap (option_map object) (members_back (n - 1) no_members ms h.1 h.2)

  items_back : (n : ℕ) (ds : Items) → AreReadable n ds → of_items (items_outline ds) ≡ Some ds
  items_back n no_items h = refl
  items_back n (item d ds) h = rw (value_back n d h.0, items_back n ds h.1) refl

  members_back : (n : ℕ) (found ms : Members) → are_rising found ms ≡ true → HasReadable n ms → of_members (members_outline ms) found ≡ Some (behind found ms)
  members_back n found no_members rising h = ap (λ (x : Members). Some x) (sym (behind_none found))
  members_back n found (member k d ms) rising h =
      let p = and_parts _ _ (and_parts _ _ rising).1 in
      ap (option_and_then (λ d. of_members (members_outline ms) (put k d found))) (value_back n d h.0)
      ∙ ap (of_members (members_outline ms)) (put_above k d found p.0)
      ∙ members_back n (behind found (member k d no_members)) ms p.1 h.1
      ∙ ap (λ (x : Members). Some x) (behind_behind found (member k d no_members) ms)

mutual
  has_numbers : (n : ℕ) (d : Data) → IsReadable n d → HasNumbers (outline d)
  has_numbers n null h = tt
  has_numbers n (boolean b) h = tt
  has_numbers n (number (unsigned m)) h = IsNumber-decimal m h
  has_numbers n (number (negative (pos m))) h = absurd h
  has_numbers n (number (negative (negsuc m))) h = IsNumber-signed_decimal (negsuc m) (omega (arith, h))
  has_numbers n (number (float x)) h = absurd h
  has_numbers n (string s) h = tt
  has_numbers n (array ds) h = items_have_numbers (n - 1) ds h.1
  has_numbers n (object ms) h = members_have_numbers (n - 1) ms h.2

  items_have_numbers : (n : ℕ) (ds : Items) → AreReadable n ds → ItemsHaveNumbers (items_outline ds)
  items_have_numbers n no_items h = tt
  items_have_numbers n (item d ds) h = (has_numbers n d h.0, items_have_numbers n ds h.1)

  members_have_numbers : (n : ℕ) (ms : Members) → HasReadable n ms → MembersHaveNumbers (members_outline ms)
  members_have_numbers n no_members h = tt
  members_have_numbers n (member k d ms) h = (has_numbers n d h.0, members_have_numbers n ms h.1)

mutual
  shallow : (n : ℕ) (d : Data) → IsReadable n d → depth d ≤ n
  shallow n null h = omega arith
  shallow n (boolean b) h = omega arith
  shallow n (number x) h = omega arith
  shallow n (string s) h = omega arith
  shallow n (array ds) h = omega (arith, items_shallow (n - 1) ds h.1, ltb-true 0 n h.0)
  shallow n (object ms) h = omega (arith, members_shallow (n - 1) ms h.2, ltb-true 0 n h.0)

  items_shallow : (n : ℕ) (ds : Items) → AreReadable n ds → items_depth ds ≤ n
  items_shallow n no_items h = omega arith
  items_shallow n (item d ds) h = omega (arith, shallow n d h.0, items_shallow n ds h.1)

  members_shallow : (n : ℕ) (ms : Members) → HasReadable n ms → members_depth ms ≤ n
  members_shallow n no_members h = omega arith
  members_shallow n (member k d ms) h = omega (arith, shallow n d h.0, members_shallow n ms h.1)

-- ---- the texts are UTF-8

utf8_decimal : (n : ℕ) → n < 2 ^ 64 → IsUtf8 (decimal n)
utf8_decimal n h = IsUtf8-from_ascii (decimal n) (IsAscii-decimal n h)

utf8_comma : (later : Bool) → IsUtf8 (comma_if later)
utf8_comma true = IsUtf8-are_ascii (44 ∷ []) refl
utf8_comma false = IsUtf8-nil

ascii_then : (x : ℕ) (xs : List ℕ) → IsUtf8 (x ∷ []) → IsUtf8 xs → IsUtf8 (x ∷ xs)
ascii_then x xs h u = IsUtf8-append (x ∷ []) xs h u

mutual
  utf8_value : (n : ℕ) (d : Data) → IsReadable n d → IsUtf8 (compact_text d)
  utf8_value n null h = IsUtf8-are_ascii (110 ∷ 117 ∷ 108 ∷ 108 ∷ []) refl
  utf8_value n (boolean b) h = IsUtf8-boolean b
  utf8_value n (number (unsigned m)) h = utf8_decimal m h
  utf8_value n (number (negative (pos m))) h = absurd h
  utf8_value n (number (negative (negsuc m))) h = ascii_then 45 (decimal (suc m)) (IsUtf8-are_ascii (45 ∷ []) refl) (utf8_decimal (suc m) (omega (arith, h)))
  utf8_value n (number (float x)) h = absurd h
  utf8_value n (string s) h = IsUtf8-quoted s h
  utf8_value n (array ds) h = ascii_then 91 (items_text false ds) (IsUtf8-are_ascii (91 ∷ []) refl) (utf8_items (n - 1) false ds h.1)
  utf8_value n (object ms) h = ascii_then 123 (members_text false ms) (IsUtf8-are_ascii (123 ∷ []) refl) (utf8_members (n - 1) false no_members ms h.1 h.2)

  utf8_items : (n : ℕ) (later : Bool) (ds : Items) → AreReadable n ds → IsUtf8 (items_text later ds)
  utf8_items n later no_items h = IsUtf8-are_ascii (93 ∷ []) refl
  utf8_items n later (item d ds) h =
      IsUtf8-append (comma_if later) (compact_text d ++ items_text true ds) (utf8_comma later)
      (IsUtf8-append (compact_text d) (items_text true ds) (utf8_value n d h.0) (utf8_items n true ds h.1))

  utf8_members : (n : ℕ) (later : Bool) (found ms : Members) → are_rising found ms ≡ true → HasReadable n ms → IsUtf8 (members_text later ms)
  utf8_members n later found no_members rising h = IsUtf8-are_ascii (125 ∷ []) refl
  utf8_members n later found (member k d ms) rising h =
      let p = and_parts _ _ rising in
      let more = (and_parts _ _ p.1).1 in
      IsUtf8-append (comma_if later) (quoted k ++ 58 ∷ (compact_text d ++ members_text true ms)) (utf8_comma later)
      (IsUtf8-append (quoted k) (58 ∷ (compact_text d ++ members_text true ms)) (IsUtf8-quoted k (IsUtf8-are_ascii k p.0))
      (ascii_then 58 (compact_text d ++ members_text true ms) (IsUtf8-are_ascii (58 ∷ []) refl)
      (IsUtf8-append (compact_text d) (members_text true ms) (utf8_value n d h.0) (utf8_members n true (behind found (member k d no_members)) ms more h.1))))

-- ---- a value is read of its text

pub reading-compact_text : (d : Data) → IsReadable 127 d → reading (compact_text d) ≡ Some d
reading-compact_text d h =
    sym (reading_some (compact_text d) d (utf8_value 127 d h)
    (read-compact_text d (record { value = value_back 127 d h; numbers = has_numbers 127 d h }) (shallow 127 d h)))

-- ---- lists

module _ {A : Type 0} (show : A → Data) (P : A → Type 0) (n : ℕ) (each : (a : A) → P a → IsReadable n (show a)) where
  pub are_readable : (xs : List A) → All P xs → AreReadable n (items_of (map show xs))
  are_readable [] h = tt
  are_readable (x ∷ xs) h = (each x (h 0 x (omega arith)), are_readable xs (λ k d low. h (suc k) d (omega arith)))
