-- What is left of an object after a field was taken out: the other fields stay.
use Rattle.std.proofs.Common.{◌≡◌, ℕ, List, [], ◌∷◌, Option, Some, None, option_and_then, String, Global, Ordering, Less, Equal, Greater, string_bytes, nat_cmp, is_eq, cond, Bool, true, false, true≢false, refl, sym, ap, ◌∙◌}
use Rattle.std.specs.Prelude.{if◌then◌else◌, pos, Ok, Err}
use Rattle.std.specs.List.{list_any, list_all}
use Rattle.std.specs.Ordering.{match_ordering}
use Rattle.std.specs.Cmp.Lexicographic.{slice_cmp, same_text, texts_ties}
use Rattle.std.specs.Map.{remove_entry}
use Rattle.std.specs.BTreeMap.{is_at}
use Rattle.serde_json.specs.Data.{Data, null, boolean, number, string, array, object, Members, no_members, member}
use Rattle.serde_json.specs.Find.{get_member}
use Rattle.serde_json.specs.View.{view, members_view}
use Rattle.serde_json.specs.declared.value.Value.{Value}
use Rattle.task_props.specs.declared.prop_rule.PropRule.TheVariants.{Missing}
use Rattle.dimensions.specs.Alike.{same}
use Rattle.dimensions.proofs.Tests.{and-first, and-other, or-first, or-other}
use Rattle.json_fields.specs.Fields.{present, unless_null, or_absent, text_of, values_of, number_of, some_number_of, flag_of, is_unknown, first_unknown, unknown_key, text_in, required_text_in, number_in, optional_number_in, flag_in, list_in, items_in}
use Rattle.json_fields.specs.Taken.{without, without_member, without_all}

abbrev Entry : Type 0
Entry = String Global × Value

-- ---- what a map's `remove` leaves

left_by : (t : Bool) (es rest : List Entry) (e : Entry) (ms : Members) → members_view rest ≡ ms
    → members_view (cond t es (e ∷ rest)) ≡ (if t then members_view es else member (string_bytes e.0) (view e.1) ms)
left_by true es rest e ms h = refl
left_by false es rest e ms h = ap (member (string_bytes e.0) (view e.1)) h

abbrev at_key : List ℕ → String Global → Bool
at_key key = is_at (λ k. slice_cmp nat_cmp key (string_bytes k))

pub members_view-remove_entry : (key : List ℕ) (es : List Entry) → members_view (remove_entry (at_key key) es) ≡ without_member key (members_view es)
members_view-remove_entry key [] = refl
members_view-remove_entry key (e ∷ es) =
    ap (λ t. members_view (cond t es (e ∷ remove_entry (at_key key) es))) (sym (texts_ties key (string_bytes e.0)))
    ∙ left_by (same key (string_bytes e.0)) es (remove_entry (at_key key) es) e _ (members_view-remove_entry key es)

-- ---- the other keys

passed : (o : Ordering) (a b : Option Data) → is_eq o ≡ false → match_ordering o a b a ≡ a
passed Less a b h = refl
passed Equal a b h = absurd (true≢false h)
passed Greater a b h = refl

differs : (q key k : List ℕ) → same q key ≡ false → same key k ≡ true → is_eq (slice_cmp nat_cmp q k) ≡ false
differs q key k apart own = sym (texts_ties q k) ∙ (ap (same q) (sym (same_text key k (sym own))) ∙ apart)

found_by : (t : Bool) (q key k : List ℕ) (d : Data) (ms : Members) → same key k ≡ t → same q key ≡ false → get_member q (without_member key ms) ≡ get_member q ms
    → get_member q (if t then ms else member k d (without_member key ms)) ≡ get_member q (member k d ms)
found_by true q key k d ms own apart rest = sym (passed (slice_cmp nat_cmp q k) (get_member q ms) (Some d) (differs q key k apart own))
found_by false q key k d ms own apart rest = ap (λ r. match_ordering (slice_cmp nat_cmp q k) r (Some d) r) rest

get_member-without : (q key : List ℕ) (ms : Members) → same q key ≡ false → get_member q (without_member key ms) ≡ get_member q ms
get_member-without q key no_members apart = refl
get_member-without q key (member k d ms) apart = found_by (same key k) q key k d ms refl apart (get_member-without q key ms apart)

present-without : (q key : List ℕ) (d : Data) → same q key ≡ false → present q (without key d) ≡ present q d
unfolding present without
present-without q key null apart = refl
present-without q key (boolean b) apart = refl
present-without q key (number n) apart = refl
present-without q key (string s) apart = refl
present-without q key (array ds) apart = refl
present-without q key (object ms) apart = ap (option_and_then unless_null) (get_member-without q key ms apart)

present-without_all : (q : List ℕ) (keys : List (List ℕ)) (d : Data) → list_any (same q) keys ≡ false → present q (without_all keys d) ≡ present q d
present-without_all q [] d apart = refl
present-without_all q (key ∷ keys) d apart =
    present-without_all q keys (without key d) (or-other (same q key) _ apart) ∙ present-without q key d (or-first (same q key) _ apart)

pub text_in-without : (q : List ℕ) (keys : List (List ℕ)) (d : Data) → list_any (same q) keys ≡ false → text_in q (without_all keys d) ≡ text_in q d
unfolding text_in
text_in-without q keys d apart = ap (or_absent text_of (Ok [])) (present-without_all q keys d apart)

pub required_text_in-without : (q : List ℕ) (keys : List (List ℕ)) (d : Data) → list_any (same q) keys ≡ false → required_text_in q (without_all keys d) ≡ required_text_in q d
unfolding required_text_in
required_text_in-without q keys d apart = ap (or_absent text_of (Err Missing)) (present-without_all q keys d apart)

pub number_in-without : (q : List ℕ) (keys : List (List ℕ)) (d : Data) → list_any (same q) keys ≡ false → number_in q (without_all keys d) ≡ number_in q d
unfolding number_in
number_in-without q keys d apart = ap (or_absent number_of (Ok (pos 0))) (present-without_all q keys d apart)

pub optional_number_in-without : (q : List ℕ) (keys : List (List ℕ)) (d : Data) → list_any (same q) keys ≡ false → optional_number_in q (without_all keys d) ≡ optional_number_in q d
unfolding optional_number_in
optional_number_in-without q keys d apart = ap (or_absent some_number_of (Ok None)) (present-without_all q keys d apart)

pub flag_in-without : (q : List ℕ) (keys : List (List ℕ)) (d : Data) → list_any (same q) keys ≡ false → flag_in q (without_all keys d) ≡ flag_in q d
unfolding flag_in
flag_in-without q keys d apart = ap (or_absent flag_of (Ok false)) (present-without_all q keys d apart)

pub list_in-without : (q : List ℕ) (keys : List (List ℕ)) (d : Data) → list_any (same q) keys ≡ false → list_in q (without_all keys d) ≡ list_in q d
unfolding list_in
list_in-without q keys d apart = ap (or_absent values_of (Err Missing)) (present-without_all q keys d apart)

pub items_in-without : (q : List ℕ) (keys : List (List ℕ)) (d : Data) → list_any (same q) keys ≡ false → items_in q (without_all keys d) ≡ items_in q d
unfolding items_in
items_in-without q keys d apart = ap (or_absent values_of (Ok [])) (present-without_all q keys d apart)

-- ---- keys that aren't known

known_stays : (known : List (List ℕ)) (k : List ℕ) (d : Data) (ms : Members) → list_any (λ name. same name k) known ≡ true → first_unknown known (member k d ms) ≡ first_unknown known ms
known_stays known k d ms h = rw h refl

unknown_by : (t : Bool) (known : List (List ℕ)) (key k : List ℕ) (d : Data) (ms : Members) → same key k ≡ t → list_any (λ name. same name key) known ≡ true
    → first_unknown known (without_member key ms) ≡ first_unknown known ms
    → first_unknown known (if t then ms else member k d (without_member key ms)) ≡ first_unknown known (member k d ms)
unknown_by true known key k d ms own is rest =
    sym (known_stays known k d ms (ap (λ (x : List ℕ). list_any (λ name. same name x) known) (sym (same_text key k (sym own))) ∙ is))
unknown_by false known key k d ms own is rest = ap (λ r. if is_unknown known k d then Some k else r) rest

first_unknown-without : (known : List (List ℕ)) (key : List ℕ) (ms : Members) → list_any (λ name. same name key) known ≡ true → first_unknown known (without_member key ms) ≡ first_unknown known ms
first_unknown-without known key no_members is = refl
first_unknown-without known key (member k d ms) is = unknown_by (same key k) known key k d ms refl is (first_unknown-without known key ms is)

unknown_key-without_one : (known : List (List ℕ)) (key : List ℕ) (d : Data) → list_any (λ name. same name key) known ≡ true → unknown_key known (without key d) ≡ unknown_key known d
unfolding unknown_key without
unknown_key-without_one known key null is = refl
unknown_key-without_one known key (boolean b) is = refl
unknown_key-without_one known key (number n) is = refl
unknown_key-without_one known key (string s) is = refl
unknown_key-without_one known key (array ds) is = refl
unknown_key-without_one known key (object ms) is = first_unknown-without known key ms is

-- known keys that were taken out change nothing
pub unknown_key-without : (known keys : List (List ℕ)) (d : Data) → list_all (λ key. list_any (λ name. same name key) known) keys ≡ true → unknown_key known (without_all keys d) ≡ unknown_key known d
unknown_key-without known [] d are = refl
unknown_key-without known (key ∷ keys) d are =
    unknown_key-without known keys (without key d) (and-other (list_any (λ name. same name key) known) _ are)
    ∙ unknown_key-without_one known key d (and-first (list_any (λ name. same name key) known) _ are)
