-- A value is read of its compact text, where its numbers are whole and its keys rise.
use Rattle.std.proofs.Common.{◌≡◌, ℕ, suc, ◌<◌, ◌≤◌, ◌^◌, ℤ, pos, negsuc, List, [], ◌∷◌, map, max, Option, Some, None, option_and_then, refl, sym, ap, ap₂, ◌∙◌, arith, append-nil, All}
use Rattle.json.specs.Json as json
use Rattle.json.specs.Token.{Token}
use Rattle.json.specs.Tree as tree
use Rattle.json.specs.Tree.{json_tokens, HasNumbers, ItemsHaveNumbers}
use Rattle.json.proofs.Printed.Decimals.{IsNumber-decimal, IsNumber-signed_decimal}
use Rattle.json.proofs.Printed.Tokens.{tokens-print}
use Rattle.json.proofs.Printed.Trees.{value-json_tokens, ArePrintable-json_tokens}
use Rattle.serde_json.specs.Data.{Data, null, boolean, number, string, array, object, Items, no_items, item, Members, no_members, member, depth, items_depth, members_depth}
use Rattle.serde_json.specs.Read.{of_json, of_items, max_depth, read}
use Rattle.serde_json.specs.View.{items_of}
use Rattle.serde_json.specs.Written.{outline, items_outline, members_outline, compact_text}
use Rattle.serde_json.proofs.Numbers.{number_of-decimal, number_of-negative}
use Rattle.serde_json.proofs.Texts.{print-outline}
use Rattle.line_parts.specs.Finding.{whole, signed, IsInt}
use Rattle.line_parts.specs.Lists.{list_data, or_null, HoldsOption}

-- what is written for the value is read as the value
pub record ReadsBack (d : Data) : Type 0 where
  pub value : of_json (outline d) ≡ Some d
  pub numbers : HasNumbers (outline d)

mutual
  depth-outline : (d : Data) → tree.depth (outline d) ≡ depth d
  depth-outline null = refl
  depth-outline (boolean b) = refl
  depth-outline (number n) = refl
  depth-outline (string s) = refl
  depth-outline (array ds) = ap suc (items_depth-outline ds)
  depth-outline (object ms) = ap suc (members_depth-outline ms)

  items_depth-outline : (ds : Items) → tree.items_depth (items_outline ds) ≡ items_depth ds
  items_depth-outline no_items = refl
  items_depth-outline (item d ds) = ap₂ max (depth-outline d) (items_depth-outline ds)

  members_depth-outline : (ms : Members) → tree.members_depth (members_outline ms) ≡ members_depth ms
  members_depth-outline no_members = refl
  members_depth-outline (member k d ms) = ap₂ max (depth-outline d) (members_depth-outline ms)

abbrev value_of_parsed : Option (json.Json × List Token) → Option Data
value_of_parsed parsed = option_and_then of_json (option_and_then (λ p. json.if_last p.0 p.1) parsed)

pub read-compact_text : (d : Data) → ReadsBack d → depth d ≤ max_depth → read (compact_text d) ≡ Some d
read-compact_text d reads shallow =
    ap read (sym (print-outline d))
    ∙ ap (λ ts. value_of_parsed (json.value max_depth ts))
    (tokens-print (json_tokens (outline d)) (ArePrintable-json_tokens (outline d) reads.numbers) ∙ sym (append-nil (json_tokens (outline d))))
    ∙ ap value_of_parsed (value-json_tokens (outline d) max_depth [] (omega (arith, depth-outline d, shallow)))
    ∙ reads.value

-- ---- numbers

pub whole_reads : (n : ℕ) → n < 2 ^ 64 → ReadsBack (whole n)
whole_reads n h = record { value = rw (number_of-decimal n h) refl; numbers = IsNumber-decimal n h }

pub signed_reads : (z : ℤ) → IsInt z → ReadsBack (signed z)
signed_reads (pos n) h = whole_reads n (omega (arith, h))
signed_reads (negsuc n) h = record {
  value = rw (number_of-negative n (omega (arith, h))) refl;
  numbers = IsNumber-signed_decimal (negsuc n) (omega (arith, h));
}

-- ---- lists, and values that may be missing

module _ {A : Type 0} (show : A → Data) (P : A → Type 0) (reads : (a : A) → P a → ReadsBack (show a)) where
  pub option_reads : (o : Option A) → HoldsOption P o → ReadsBack (or_null show o)
  option_reads None h = record { value = refl; numbers = tt }
  option_reads (Some a) h = reads a h

  items_read : (xs : List A) → All P xs → of_items (items_outline (items_of (map show xs))) ≡ Some (items_of (map show xs))
  items_read [] h = refl
  items_read (x ∷ xs) h = rw ((reads x (h 0 x (omega arith))).value, items_read xs (λ k d low. h (suc k) d (omega arith))) refl

  items_have_numbers : (xs : List A) → All P xs → ItemsHaveNumbers (items_outline (items_of (map show xs)))
  items_have_numbers [] h = tt
  items_have_numbers (x ∷ xs) h = ((reads x (h 0 x (omega arith))).numbers, items_have_numbers xs (λ k d low. h (suc k) d (omega arith)))

  pub list_reads : (xs : List A) → All P xs → ReadsBack (list_data show xs)
  list_reads xs h = record { value = rw (items_read xs h) refl; numbers = items_have_numbers xs h }
