-- What is read of members that were shown: numbers, values that may be null, lists of objects, and the one place of ids.
use Rattle.std.proofs.Common.{◌≡◌, ℕ, zero, suc, ◌+◌, ◌≤◌, ◌==◌, ◌&&◌, ℤ, pos, negsuc, Bool, true, false, List, [], ◌∷◌, map, Option, Some, None, is_some, option_map, Result, Ok, Err, IfSome, refl, sym, ap, ◌∙◌, arith, All, le-leb}
use Rattle.std.specs.Prelude.{if◌then◌else◌, decimal}
use Rattle.std.specs.List.{list_any}
use Rattle.std.proofs.lemmas.Bool.{and_parts, and_from, eqb-true, ne_eqb}
use Rattle.serde_json.specs.Data.{Data, string, object, Members}
use Rattle.serde_json.specs.View.{items_of}
use Rattle.task_props.specs.declared.prop_rule.PropRule.TheVariants.{Range}
use Rattle.task_props.specs.declared.prop_fault.PropFault.{PropFault}
use Rattle.json_values.specs.Values.{whole, signed, or_null}
use Rattle.json_fields.specs.Readings.{inside, each_from}
use Rattle.json_fields.specs.Fields.{unless_null, or_absent, some_number_of, list_of, object_item}
use Rattle.json_fields.specs.Ranges.{whole_in}
use Rattle.json_fields.proofs.Arrays.{list_of_items}
use Rattle.line_parts.specs.Finding.{IsInt}
use Rattle.server_calls.specs.Members.{some_text, some_whole}
use Rattle.server_calls.specs.Places.{is_at, are_at, one_place}
use Rattle.server_calls.specs.Tasks.{code_of}
use Rattle.wire_laws.specs.Fitting.{IsLong, IsPlace, IsBlobSize}
use Rattle.wire_laws.specs.Told.{if_named}
use Rattle.line_parts.specs.Parts.{IsWord}

-- ---- numbers

-- a number within a range is read as it is
pub within_range : (lowest highest n : ℕ) → lowest ≤ n → n ≤ highest → whole_in lowest highest (pos n) ≡ Ok n
unfolding whole_in
within_range lowest highest n low high = ap (λ b. if b then Ok n else Err Range) (and_from _ _ (le-leb lowest n low) (le-leb n highest high))

pub long_is : (n : ℕ) → IsLong n → whole_in 0 18446744073709551615 (pos n) ≡ Ok n
long_is n h = within_range 0 18446744073709551615 n (omega arith) (omega (arith, h))

pub word_is : (n : ℕ) → IsWord n → whole_in 0 4294967295 (pos n) ≡ Ok n
word_is n h = within_range 0 4294967295 n (omega arith) (omega (arith, h))

pub size_is : (n : ℕ) → IsBlobSize n → whole_in 0 16777216 (pos n) ≡ Ok n
size_is n h = within_range 0 16777216 n (omega arith) h

-- ---- values that may be null

pub maybe_text : (o : Option (List ℕ)) → or_absent some_text (Ok None) (unless_null (or_null string o)) ≡ Ok o
maybe_text None = refl
maybe_text (Some text) = refl

pub maybe_shown : {A : Type 0} (show : A → List ℕ) (o : Option A) → or_absent some_text (Ok None) (unless_null (or_null (λ a. string (show a)) o)) ≡ Ok (option_map show o)
maybe_shown show None = refl
maybe_shown show (Some a) = refl

pub maybe_whole : (o : Option ℕ) → or_absent some_number_of (Ok None) (unless_null (or_null whole o)) ≡ Ok (option_map pos o)
maybe_whole None = refl
maybe_whole (Some n) = refl

pub some_whole_is : (key : List ℕ) (lowest highest : ℕ) (o : Option ℕ) → IfSome o (λ n. whole_in lowest highest (pos n) ≡ Ok n) → some_whole key lowest highest (option_map pos o) ≡ Ok o
some_whole_is key lowest highest None h = refl
some_whole_is key lowest highest (Some n) h = rw h refl

pub maybe_long : (key : List ℕ) (o : Option ℕ) → IfSome o IsLong → some_whole key 0 18446744073709551615 (option_map pos o) ≡ Ok o
maybe_long key None h = refl
maybe_long key (Some n) h = rw (long_is n h) refl

pub maybe_signed : (o : Option ℤ) → or_absent some_number_of (Ok None) (unless_null (or_null signed o)) ≡ Ok o
maybe_signed None = refl
maybe_signed (Some (pos n)) = refl
maybe_signed (Some (negsuc n)) = refl

pub exit_code_is : (o : Option ℤ) → IfSome o IsInt → code_of o ≡ Ok o
unfolding code_of
exit_code_is None h = refl
exit_code_is (Some (pos n)) h = rw (le-leb n 2147483647 (omega (arith, h))) refl
exit_code_is (Some (negsuc n)) h = rw (le-leb n 2147483647 (omega (arith, h))) refl

-- ---- lists

-- an item that is an object is read by its fields
pub object_item_is : {A : Type 0} (fields : Data → Result A PropFault) (ms : Members) (a : A) → fields (object ms) ≡ Ok a → (place : ℕ) → object_item fields place (object ms) ≡ Ok a
unfolding object_item
object_item_is fields ms a h place = ap (inside (decimal place)) h

module _ {A B C : Type 0} (show : A → C) (read : ℕ → C → Result B PropFault) (mean : A → B) (P : A → Type 0) (each : (a : A) → P a → (place : ℕ) → read place (show a) ≡ Ok (mean a)) where
  pub each_is : (place : ℕ) (xs : List A) → All P xs → each_from read place (map show xs) ≡ Ok (map mean xs)
  each_is place [] h = refl
  each_is place (x ∷ xs) h = rw (each x (h 0 x (omega arith)) place, each_is (place + 1) xs (λ k d low. h (suc k) d (omega arith))) refl

pub means_list : {A B : Type 0} (show : A → Data) (read : ℕ → Data → Result B PropFault) (mean : A → B) (P : A → Type 0) → ((a : A) → P a → (place : ℕ) → read place (show a) ≡ Ok (mean a))
    → (key : List ℕ) (xs : List A) → All P xs → inside key (each_from read 0 (list_of (items_of (map show xs)))) ≡ Ok (map mean xs)
means_list show read mean P each key xs h =
    ap (λ ds. inside key (each_from read 0 ds)) (list_of_items (map show xs)) ∙ ap (inside key) (each_is show read mean P each 0 xs h)

pub map_same : {A : Type 0} (xs : List A) → map (λ x. x) xs ≡ xs
map_same [] = refl
map_same (x ∷ xs) = ap (λ l. x ∷ l) (map_same xs)

pub reads_list : {A : Type 0} (show : A → Data) (read : ℕ → Data → Result A PropFault) (P : A → Type 0) → ((a : A) → P a → (place : ℕ) → read place (show a) ≡ Ok a)
    → (key : List ℕ) (xs : List A) → All P xs → inside key (each_from read 0 (list_of (items_of (map show xs)))) ≡ Ok xs
reads_list show read P each key xs h = means_list show read (λ x. x) P each key xs h ∙ ap (λ (l : List _). Ok l) (map_same xs)

-- ---- one place

-- ids of one place are not at another
not_at : (place other : ℕ) → (other ≡ place → ⊥) → (o : Option ℕ) → is_at place o ≡ true → is_some o ≡ true → is_at other o ≡ false
not_at place other apart None h some = absurd (cc)
not_at place other apart (Some p) h some = let is = eqb-true p place h in ne_eqb p other (λ e. apart (sym e ∙ is))

all_false : (a b : Bool) → a ≡ false → (a && b) ≡ false
all_false true b h = absurd (cc)
all_false false b h = refl

not_all_at : (place other : ℕ) → (other ≡ place → ⊥) → (ps : List (Option ℕ)) → are_at place ps ≡ true → list_any is_some ps ≡ true → are_at other ps ≡ false
not_all_at place other apart [] h some = absurd (cc)
not_all_at place other apart (None ∷ ps) h some = not_all_at place other apart ps h some
not_all_at place other apart (Some p ∷ ps) h some =
    let both = and_parts _ _ h in
    all_false (p == other) (are_at other ps) (not_at place other apart (Some p) both.0 refl)

-- the place that the ids name
pub one_place_is : (place : ℕ) → IsPlace place → (ps : List (Option ℕ)) → are_at place ps ≡ true → list_any is_some ps ≡ true → one_place ps ≡ Ok place
unfolding one_place
one_place_is zero p ps h some = rw h refl
one_place_is (suc zero) p ps h some = rw (not_all_at 1 0 (λ e. absurd (omega (arith, e))) ps h some, h) refl
one_place_is (suc (suc zero)) p ps h some = rw (not_all_at 2 0 (λ e. absurd (omega (arith, e))) ps h some, not_all_at 2 1 (λ e. absurd (omega (arith, e))) ps h some, h) refl
one_place_is (suc (suc (suc zero))) p ps h some =
    rw (not_all_at 3 0 (λ e. absurd (omega (arith, e))) ps h some, not_all_at 3 1 (λ e. absurd (omega (arith, e))) ps h some, not_all_at 3 2 (λ e. absurd (omega (arith, e))) ps h some, h) refl
one_place_is (suc (suc (suc (suc n)))) p ps h some = absurd (omega (arith, p))

at_any : (ps : List (Option ℕ)) → list_any is_some ps ≡ false → are_at 0 ps ≡ true
at_any [] h = refl
at_any (None ∷ ps) h = at_any ps h
at_any (Some p ∷ ps) h = absurd (cc)

-- the place that the ids name, where they name one
pub named_place_is : (place : ℕ) → IsPlace place → (ps : List (Option ℕ)) (named : Bool) → list_any is_some ps ≡ named → are_at place ps ≡ true → one_place ps ≡ Ok (if_named named place)
unfolding one_place
named_place_is place p ps true e h = one_place_is place p ps h e
named_place_is place p ps false e h = rw (at_any ps e) refl
