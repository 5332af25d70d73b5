-- The values of members and lists.
use Rattle.std.specs.Prelude.{ℕ, ℤ, List, map, Option, Some, None}
use Rattle.serde_json.specs.Data.{Data, null, number, unsigned, array}
use Rattle.serde_json.specs.Find.{of_integer}
use Rattle.serde_json.specs.View.{items_of}

abbrev pub whole : ℕ → Data
whole n = number (unsigned n)

abbrev pub signed : ℤ → Data
signed z = number (of_integer z)

-- what isn't there is null
abbrev pub or_null : {A : Type 0} → (A → Data) → Option A → Data
or_null show None = null
or_null show (Some x) = show x

-- a list of values
abbrev pub list_data : {A : Type 0} → (A → Data) → List A → Data
list_data show items = array (items_of (map show items))
