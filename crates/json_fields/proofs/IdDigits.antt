-- An id is a numeral in hexadecimal.
use Rattle.std.proofs.Common.{◌≡◌, ◌≢◌, ℕ, ◌-◌, ◌<◌, ◌≤◌, ◌^◌, List, [], ◌∷◌, length, get_or, refl, Bool, true, false, ◌||◌, Result, Ok, Err, arith, subst, lit<}
use Rattle.std.specs.Prelude.{◌&&◌, nat_le}
use Rattle.std.specs.List.{list_all}
use Rattle.std.specs.Int.{IsInRange}
use Rattle.std.specs.Char.{digit_value, is_ascii_digit}
use Rattle.std.specs.Str.Parse.{AllDigits, IsNumeral, digits_value, without_leading_plus, ParsesUnsigned}
use Rattle.std.proofs.lemmas.Bool.{and_parts}
use Rattle.std.proofs.lemmas.Result.{Ok-from_Ok_iff}
use Rattle.std.proofs.lemmas.Int.Digits.{digits_value-lt}
use Rattle.std.proofs.Math.Nat.{pow-le-pow_right}
use Rattle.std.proofs.lemmas.Str.Parse.{without_leading_plus_none}
use Rattle.std.proofs.lemmas.Str.{digit_value_digit}
use Rattle.task_props.specs.Digests.{is_hex_digit}
use Rattle.json_fields.specs.Ids.{has_id_form}

digit_range : (c : ℕ) → is_ascii_digit c ≡ true → IsInRange 48 57 c
digit_range c h = (grind (arith, h), grind (arith, h))

letter_range : (c : ℕ) → (nat_le 97 c && nat_le c 102) ≡ true → IsInRange 97 102 c
letter_range c h = (grind (arith, h), grind (arith, h))

letter_value : (c : ℕ) → 97 ≤ c → c ≤ 102 → digit_value c ≡ c - 87
letter_value c low high = grind (arith, low, high)

of_kind : (c : ℕ) (t : Bool) → is_ascii_digit c ≡ t → (t || (nat_le 97 c && nat_le c 102)) ≡ true → digit_value c < 16
of_kind c true d h = let k = digit_range c d in omega (arith, digit_value_digit c k, k.1)
of_kind c false d h = let k = letter_range c h in omega (arith, letter_value c k.0 k.1, k.1)

id_digit_value : (c : ℕ) → is_hex_digit c ≡ true → digit_value c < 16
id_digit_value c h = of_kind c (is_ascii_digit c) refl h

all_digits : (s : List ℕ) → list_all is_hex_digit s ≡ true → AllDigits 16 s
all_digits [] h = tt
all_digits (c ∷ cs) h = let k = and_parts (is_hex_digit c) (list_all is_hex_digit cs) h in (id_digit_value c k.0, all_digits cs k.1)

no_plus : (s : List ℕ) → IsNumeral 16 s → get_or s 0 0 ≢ 43
no_plus [] h e = let l = h.0 in absurd (omega (arith, l))
no_plus (c ∷ cs) h e =
    let P : ℕ → Type 0 = λ c. digit_value c < 16 in
    let l : digit_value 43 < 16 = subst P e h.1.0 in
    absurd (omega (arith, l))

pub record IdParts (s : List ℕ) : Type 0 where
  pub some : 0 < length s
  pub short : length s ≤ 7
  pub digits : list_all is_hex_digit s ≡ true

id_parts : (s : List ℕ) → has_id_form s ≡ true → IdParts s
id_parts s h = record { some = grind (arith, h); short = grind (arith, h); digits = grind (arith, h) }

id_small : (s : List ℕ) → has_id_form s ≡ true → digits_value 16 s < 2 ^ 32
id_small s h =
    let w = id_parts s h in
    omega (arith, digits_value-lt 16 s (all_digits s w.digits), pow-le-pow_right {n = 16} (lit< tt) w.short)

-- such a text parses as a u32
pub id_parses : {E : Type 0} (s : List ℕ) (r : Result ℕ E) → has_id_form s ≡ true → ParsesUnsigned 32 16 s r → r ≡ Ok (digits_value 16 s)
id_parses s r h p =
    let w = id_parts s h in
    let numeral : IsNumeral 16 s = (w.some, all_digits s w.digits) in
    let plain : without_leading_plus s ≡ s = without_leading_plus_none s (no_plus s numeral) in
    Ok-from_Ok_iff r _ _ (rw plain at p) (numeral, id_small s h)

pub never_err : {X E : Type 0} {A : Type 0} (r : Result X E) (e : E) → r ≡ Err e → {v : X} → r ≡ Ok v → A
never_err r e h k = cc
