-- The fields of a head, as names and values, by their names.
use Rattle.std.specs.Prelude.{ℕ, true, false, Bool, List, [], ◌∷◌, map, if◌then◌else◌, Option, Some, None}
use Rattle.std.specs.List.{flat_map}
use Rattle.std.specs.Char.{to_ascii_lowercase}
use Rattle.std.specs.Str.{bytes_eq}

-- names of fields are the same in any case of letters
abbrev pub same_name : List ℕ → List ℕ → Bool
same_name a b = bytes_eq (map to_ascii_lowercase a) (map to_ascii_lowercase b)

-- the value of the field, where it has this name
abbrev pub if_named : List ℕ → List ℕ × List ℕ → List (List ℕ)
if_named name field = if same_name field.0 name then field.1 ∷ [] else []

-- the values of the fields of this name
abbrev pub named : List ℕ → List (List ℕ × List ℕ) → List (List ℕ)
named name fields = flat_map (if_named name) fields

-- the only value, where there is one alone
abbrev pub only : List (List ℕ) → Option (List ℕ)
only [] = None
only (v ∷ []) = Some v
only (v ∷ w ∷ vs) = None

abbrev pub is_empty : List (List ℕ) → Bool
is_empty [] = true
is_empty (v ∷ vs) = false

-- no field has this name
abbrev pub lacks : List ℕ → List (List ℕ × List ℕ) → Bool
lacks name fields = is_empty (named name fields)
