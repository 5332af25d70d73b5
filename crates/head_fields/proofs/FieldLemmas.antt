-- What the code's loops and spans say of fields.
use Rattle.std.proofs.Common.{◌≡◌, ℕ, ◌+◌, ◌-◌, ◌*◌, ◌^◌, ◌<◌, ◌≤◌, true, arith, List, [], ◌∷◌, ◌++◌, length, take, map, get_or, ap, ◌∙◌, append-nil, lit<}
use Rattle.std.specs.List.{list_all}
use Rattle.std.specs.Int.{IsInRange}
use Rattle.std.specs.Char.{is_ascii_digit, digit_value}
use Rattle.std.specs.Str.Parse.{digits_value}
use Rattle.std.proofs.lemmas.List.Sums.{AllPass-from_list_all}
use Rattle.std.proofs.lemmas.Int.Digits.{digits_value_more}
use Rattle.std.proofs.lemmas.Str.{digit_value_digit}
use Rattle.std.proofs.lemmas.Grind.{pow_more}
use Rattle.std.proofs.Math.Nat.{pow-le-pow_right}
use Rattle.std.proofs.lemmas.Bool.Decides.{nat_tests}
use Rattle.std.proofs.lemmas.List.{map_more}
use Rattle.std.proofs.lemmas.List.Concat.{flat_map-append}
use Rattle.httparse.specs.Spans.{header_bytes}
use Rattle.httparse.specs.declared.spans.HeaderSpan.{HeaderSpan}
use Rattle.head_fields.specs.Fields.{named, if_named}

abbrev pub no_header : HeaderSpan
no_header = record { name = record { start = 0; end = 0 }; value = record { start = 0; end = 0 } }

-- the fields of a name, one more header on
pub named_more : (buf name : List ℕ) (headers : List HeaderSpan) (i : ℕ) (h : HeaderSpan) → i < length headers
    → named name (map (header_bytes buf) (take (i + 1) headers))
    ≡ named name (map (header_bytes buf) (take i headers)) ++ if_named name (header_bytes buf (get_or headers i h))
named_more buf name headers i h le =
    ap (named name) (map_more (header_bytes buf) headers i h le)
    ∙ flat_map-append (if_named name) (map (header_bytes buf) (take i headers)) (header_bytes buf (get_or headers i h) ∷ [])
    ∙ ap (λ l. named name (map (header_bytes buf) (take i headers)) ++ l) (append-nil (if_named name (header_bytes buf (get_or headers i h))))

-- an ASCII digit is a byte from 48 to 57
in_range : (c : ℕ) → is_ascii_digit c ≡ true → IsInRange 48 57 c
in_range c digit = (grind (arith, nat_tests), grind (arith, nat_tests))

-- one more digit
pub digit_more : (digits : List ℕ) (i number digit : ℕ) → list_all is_ascii_digit digits ≡ true → i < length digits
    → digit ≡ get_or digits i 0 - 48 → number ≡ digits_value 10 (take i digits) → number < 10 ^ i
    → (number * 10 + digit ≡ digits_value 10 (take (i + 1) digits)) × (number * 10 + digit < 10 ^ (i + 1))
digit_more digits i number digit all le is so_far low =
    let range : IsInRange 48 57 (get_or digits i 0) = in_range (get_or digits i 0) (AllPass-from_list_all is_ascii_digit digits all i 0 le) in
    let value : digit_value (get_or digits i 0) + 48 ≡ get_or digits i 0 = digit_value_digit (get_or digits i 0) range in
    let step : digits_value 10 (take (i + 1) digits) ≡ digits_value 10 (take i digits) * 10 + digit_value (get_or digits i 0) = digits_value_more 10 digits i le in
    let power : 10 ^ (i + 1) ≡ 10 ^ i * 10 = pow_more 10 i in
    (omega arith, omega (arith, range.1))

-- a digit is 9 at most
pub digit_low : (digits : List ℕ) (i digit : ℕ) → list_all is_ascii_digit digits ≡ true → i < length digits → digit ≡ get_or digits i 0 - 48 → digit ≤ 9
digit_low digits i digit all le is =
    let range : IsInRange 48 57 (get_or digits i 0) = in_range (get_or digits i 0) (AllPass-from_list_all is_ascii_digit digits all i 0 le) in
    omega (arith, range.1)

-- fewer than 19 digits leave room for one more
pub digit_fits : (i number : ℕ) → i < 19 → number < 10 ^ i → number * 10 + 9 < 2 ^ 64
digit_fits i number less low =
    let high : 10 ^ i ≤ 10 ^ 18 = pow-le-pow_right {n = 10} (lit< tt) {i = i} {j = 18} (omega arith) in
    omega arith
