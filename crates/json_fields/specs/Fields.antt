-- The fields of a JSON object: what each says, and the rule that it breaks.
use Rattle.std.specs.Prelude.{ℕ, ℤ, pos, Bool, false, not, ◌&&◌, List, [], ◌∷◌, is_some, decimal, Option, Some, None, option_and_then, option_map, if◌then◌else◌, Result, Ok, Err}
use Rattle.std.specs.List.{list_any}
use Rattle.serde_json.specs.Data.{Data, null, boolean, number, string, array, object, Items, no_items, item, Members, no_members, member}
use Rattle.serde_json.specs.Find.{get, as_integer, as_str, as_bool, as_null, as_array, as_object}
use Rattle.dimensions.specs.Alike.{same}
use Rattle.task_props.specs.declared.prop_rule.PropRule.{PropRule}
use Rattle.task_props.specs.declared.prop_rule.PropRule.TheVariants.{Missing, WrongType, Unknown}
use Rattle.task_props.specs.declared.prop_fault.PropFault.{PropFault}
use Rattle.task_props.specs.declared.prop_fault.PropFault.TheVariants.{Broken}
use Rattle.json_fields.specs.Readings.{at, inside, each_from, ◌>>=◌}
use Rattle.json_fields.specs.Numbers.{text_number}

abbrev pub is_null : Data → Bool
is_null d = is_some (as_null d)

abbrev pub unless_null : Data → Option Data
unless_null d = if is_null d then None else Some d

-- the value of a key, where null is as absent
unfoldable pub present : List ℕ → Data → Option Data
present key d = option_and_then unless_null (get key d)

-- ---- values

abbrev pub or_wrong : {A : Type 0} → Option A → Result A PropRule
or_wrong None = Err WrongType
or_wrong (Some x) = Ok x

abbrev pub text_of : Data → Result (List ℕ) PropRule
text_of d = or_wrong (as_str d)

abbrev pub flag_of : Data → Result Bool PropRule
flag_of d = or_wrong (as_bool d)

-- a number that is held as a whole one, or a text of one
abbrev pub number_of : Data → Result ℤ PropRule
number_of null = Err WrongType
number_of (boolean b) = Err WrongType
number_of (number n) = or_wrong (as_integer n)
number_of (string s) = text_number s
number_of (array ds) = Err WrongType
number_of (object ms) = Err WrongType

abbrev pub list_of : Items → List Data
list_of no_items = []
list_of (item d ds) = d ∷ list_of ds

abbrev pub values_of : Data → Result (List Data) PropRule
values_of d = or_wrong (option_map list_of (as_array d))

abbrev pub is_object : Data → Bool
is_object d = is_some (as_object d)

abbrev pub object_of : Data → Result Data PropRule
object_of d = if is_object d then Ok d else Err WrongType

-- ---- fields, by their keys

abbrev pub or_absent : {A : Type 0} → (Data → Result A PropRule) → Result A PropRule → Option Data → Result A PropRule
or_absent read absent None = absent
or_absent read absent (Some d) = read d

-- an absent text is empty
unfoldable pub text_in : List ℕ → Data → Result (List ℕ) PropRule
text_in key d = or_absent text_of (Ok []) (present key d)

-- a text that must be there
unfoldable pub required_text_in : List ℕ → Data → Result (List ℕ) PropRule
required_text_in key d = or_absent text_of (Err Missing) (present key d)

-- an absent number is 0
unfoldable pub number_in : List ℕ → Data → Result ℤ PropRule
number_in key d = or_absent number_of (Ok (pos 0)) (present key d)

-- a number, where there is one
abbrev pub some_of : {A : Type 0} → Result A PropRule → Result (Option A) PropRule
some_of (Ok x) = Ok (Some x)
some_of (Err rule) = Err rule

abbrev pub some_number_of : Data → Result (Option ℤ) PropRule
some_number_of d = some_of (number_of d)

unfoldable pub optional_number_in : List ℕ → Data → Result (Option ℤ) PropRule
optional_number_in key d = or_absent some_number_of (Ok None) (present key d)

-- an absent truth value is false
unfoldable pub flag_in : List ℕ → Data → Result Bool PropRule
flag_in key d = or_absent flag_of (Ok false) (present key d)

-- a list that must be there
unfoldable pub list_in : List ℕ → Data → Result (List Data) PropRule
list_in key d = or_absent values_of (Err Missing) (present key d)

-- an absent list is empty
unfoldable pub items_in : List ℕ → Data → Result (List Data) PropRule
items_in key d = or_absent values_of (Ok []) (present key d)

-- an object that must be there
unfoldable pub object_in : List ℕ → Data → Result Data PropRule
object_in key d = or_absent object_of (Err Missing) (present key d)

-- the same, with the key as the path of a broken rule

abbrev pub text_at : List ℕ → Data → Result (List ℕ) PropFault
text_at key d = at key (text_in key d)

abbrev pub required_text_at : List ℕ → Data → Result (List ℕ) PropFault
required_text_at key d = at key (required_text_in key d)

abbrev pub number_at : List ℕ → Data → Result ℤ PropFault
number_at key d = at key (number_in key d)

abbrev pub optional_number_at : List ℕ → Data → Result (Option ℤ) PropFault
optional_number_at key d = at key (optional_number_in key d)

abbrev pub flag_at : List ℕ → Data → Result Bool PropFault
flag_at key d = at key (flag_in key d)

abbrev pub list_at : List ℕ → Data → Result (List Data) PropFault
list_at key d = at key (list_in key d)

abbrev pub object_at : List ℕ → Data → Result Data PropFault
object_at key d = at key (object_in key d)

-- an item of a list that must be an object, at its place, by the reading of its fields
unfoldable pub object_item : {A : Type 0} → (Data → Result A PropFault) → ℕ → Data → Result A PropFault
object_item fields place d = do
  members ← at (decimal place) (object_of d)
  inside (decimal place) (fields members)

-- an item of a list that must be a text, at its place
abbrev pub text_item : ℕ → Data → Result (List ℕ) PropFault
text_item place d = at (decimal place) (text_of d)

-- a list that must be there, read item by item
abbrev pub each_at : {A : Type 0} → (ℕ → Data → Result A PropFault) → List ℕ → Data → Result (List A) PropFault
each_at read key d = list_at key d >>= (λ ds. inside key (each_from read 0 ds))

-- a list that may be absent, read item by item
abbrev pub items_at : {A : Type 0} → (ℕ → Data → Result A PropFault) → List ℕ → Data → Result (List A) PropFault
items_at read key d = at key (items_in key d) >>= (λ ds. inside key (each_from read 0 ds))

-- ---- keys that aren't known

-- an unknown key whose value is null is as absent
abbrev pub is_unknown : List (List ℕ) → List ℕ → Data → Bool
is_unknown known key d = not (list_any (λ name. same name key) known) && not (is_null d)

abbrev pub first_unknown : List (List ℕ) → Members → Option (List ℕ)
first_unknown known no_members = None
first_unknown known (member key d ms) = if is_unknown known key d then Some key else first_unknown known ms

-- the first key of an object, in order of bytes, that isn't known
unfoldable pub unknown_key : List (List ℕ) → Data → Option (List ℕ)
unknown_key known d = option_and_then (first_unknown known) (as_object d)

abbrev pub unless_unknown : {A : Type 0} → A → Option (List ℕ) → Result A PropFault
unless_unknown x None = Ok x
unless_unknown x (Some key) = Err (Broken key Unknown)
