-- Texts of digits.
use Rattle.std.proofs.Common.{◌≡◌, ℕ, ◌<◌, ◌≤◌, ◌^◌, List, length, true, rules, arith, Result, Ok}
use Rattle.std.specs.List.{list_all}
use Rattle.std.specs.Char.{is_ascii_digit}
use Rattle.std.specs.Str.Parse.{digits_value, ParsesUnsigned}
use Rattle.std.proofs.lemmas.Str.Parse.{IsNumeralModel, numerals_by_value, digits_value_short, parse_gives}
use Rattle.json_fields.specs.Numbers.{is_whole_text}

own : IsNumeralModel (λ ds. list_all is_ascii_digit ds ≡ true) (digits_value 10)
own = numerals_by_value _ (search rules)

pub record WholeParts (s : List ℕ) : Type 0 where
  pub some : 0 < length s
  pub short : length s ≤ 20
  pub digits : list_all is_ascii_digit s ≡ true

pub whole_parts : (s : List ℕ) → is_whole_text s ≡ true → WholeParts s
whole_parts s h = record { some = grind (arith, h); short = grind (arith, h); digits = grind (arith, h) }

-- such a text parses as a u128
pub whole_parses : {E : Type 0} (s : List ℕ) (r : Result ℕ E) → is_whole_text s ≡ true → ParsesUnsigned 128 10 s r → r ≡ Ok (digits_value 10 s)
whole_parses s r h p =
    let w = whole_parts s h in
    let small : digits_value 10 s < 10 ^ 20 = digits_value_short own s 20 w.digits w.short in
    parse_gives own 128 s r p w.digits w.some (omega (arith, small))

pub whole_small : (s : List ℕ) → is_whole_text s ≡ true → digits_value 10 s < 10 ^ 20
whole_small s h = let w = whole_parts s h in digits_value_short own s 20 w.digits w.short
