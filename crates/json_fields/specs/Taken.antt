-- An object, without a field that was taken out of it.
use Rattle.std.specs.Prelude.{ℕ, List, [], ◌∷◌, if◌then◌else◌}
use Rattle.serde_json.specs.Data.{Data, null, boolean, number, string, array, object, Members, no_members, member}
use Rattle.dimensions.specs.Alike.{same}

-- the members, without the first of a key
abbrev pub without_member : List ℕ → Members → Members
without_member key no_members = no_members
without_member key (member k d ms) = if same key k then ms else member k d (without_member key ms)

-- an object without the member of a key; any other value stays
unfoldable pub without : List ℕ → Data → Data
without key null = null
without key (boolean b) = boolean b
without key (number n) = number n
without key (string s) = string s
without key (array ds) = array ds
without key (object ms) = object (without_member key ms)

-- the same of several keys, one after the other
abbrev pub without_all : List (List ℕ) → Data → Data
without_all [] d = d
without_all (key ∷ keys) d = without_all keys (without key d)
