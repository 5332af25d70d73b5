-- The uuids of the lines of a batch.
use Rattle.std.proofs.Common.{◌≡◌, ℕ, ◌<◌, ◌≤◌, true, List, [], ◌∷◌, ◌++◌, length, None, refl, ◌∙◌, length-append, arith, lit<}
use Rattle.std.specs.Prelude.{codes, decimal}
use Rattle.std.specs.List.{list_all}
use Rattle.std.specs.Char.{digit_value}
use Rattle.std.specs.Int.{IsInRange}
use Rattle.std.specs.Str.Parse.{AllDigits}
use Rattle.std.proofs.lemmas.Bool.{and_from}
use Rattle.std.proofs.lemmas.Fmt.{decimal_injective, decimal_is_IsNumeral, length-decimal-le}
use Rattle.std.proofs.lemmas.List.Folds.{list_all-append}
use Rattle.std.proofs.lemmas.Str.Parse.{digit_from_value}
use Rattle.task_props.specs.FieldRules.{uuid_rule, is_uuid_byte}
use Rattle.swarm_batch.specs.Names.{is_name_byte}
use Rattle.swarm_batch.specs.Batches.{uuid_of}
use Rattle.swarm_batch.specs.Laws.{UuidsAreInOrder, UuidsAreApart}
use Rattle.swarm_batch.proofs.Splitting.{split_last}
use Rattle.swarm_batch.proofs.Words.{decimal_lacks}

digit_fits : (c : ℕ) → digit_value c < 10 → is_uuid_byte c ≡ true
digit_fits c h = let range : IsInRange 48 57 c = digit_from_value c h in grind (arith, range.0, range.1)

digits_fit : (cs : List ℕ) → AllDigits 10 cs → list_all is_uuid_byte cs ≡ true
digits_fit [] h = refl
digits_fit (c ∷ cs) h = and_from (is_uuid_byte c) (list_all is_uuid_byte cs) (digit_fits c h.0) (digits_fit cs h.1)

fits : (uuid : List ℕ) → length uuid ≤ 64 → list_all is_uuid_byte uuid ≡ true → uuid_rule uuid ≡ None
fits uuid short all = grind (arith, short, all)

pub uuids_are_in_order : UuidsAreInOrder
uuids_are_in_order name line h few =
    let parts : (length name ≤ 40) × (list_all is_name_byte name ≡ true) = (grind (arith, h), grind (arith, h)) in
    let digits = digits_fit (decimal line) (decimal_is_IsNumeral line (omega (arith, few))).0.1 in
    let most : length (decimal line) ≤ 4 = length-decimal-le 4 line (lit< tt) (omega (arith, few)) (omega (arith, few)) in
    let size : length (uuid_of name line) ≤ 64 = (let a = length-append name (codes "-" ++ decimal line) in omega (arith, a, parts.0, most)) in
    let all : list_all is_uuid_byte (uuid_of name line) ≡ true =
    list_all-append is_uuid_byte name (codes "-" ++ decimal line) ∙ and_from (list_all is_uuid_byte name) (list_all is_uuid_byte (codes "-" ++ decimal line)) parts.1 digits in
    fits (uuid_of name line) size all

pub uuids_are_apart : UuidsAreApart
uuids_are_apart name other line n small low e =
    let cut = split_last 45 name other (decimal line) (decimal n) (decimal_lacks 45 line (lit< tt) small) (decimal_lacks 45 n (lit< tt) low) e in
    (cut.0, decimal_injective line n small low cut.1)
