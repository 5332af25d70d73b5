-- Pairs by key.
use Rattle.std.specs.Prelude.{List, [], ◌∷◌, ◌++◌, Bool, false, ◌||◌, if◌then◌else◌, codes}
use Rattle.std.specs.Str.{bytes_eq}
use Rattle.dimensions.specs.declared.text.Text.{Text}

abbrev pub has_key : Text → List (Text × Text) → Bool
has_key key [] = false
has_key key (pair ∷ pairs) = bytes_eq pair.0 key || has_key key pairs

-- the values of a key, in order
abbrev pub values_of : Text → List (Text × Text) → List Text
values_of key [] = []
values_of key (pair ∷ pairs) = if bytes_eq pair.0 key then pair.1 ∷ values_of key pairs else values_of key pairs

-- the keys that do not stand among the earlier pairs, each where it comes first, with all its values
abbrev pub groups_behind : List (Text × Text) → List (Text × Text) → List (Text × List Text)
groups_behind earlier [] = []
groups_behind earlier (pair ∷ pairs) =
    if has_key pair.0 earlier
    then groups_behind (earlier ++ pair ∷ []) pairs
    else (pair.0, values_of pair.0 (pair ∷ pairs)) ∷ groups_behind (earlier ++ pair ∷ []) pairs

-- each key where it comes first, with all its values
abbrev pub groups_of : List (Text × Text) → List (Text × List Text)
groups_of pairs = groups_behind [] pairs

-- the groups, and the name and the pool of the bot behind them
abbrev pub groups_with_bot : Text → Text → List (Text × List Text) → List (Text × List Text)
groups_with_bot name pool groups = groups ++ (codes "id", name ∷ []) ∷ (codes "pool", pool ∷ []) ∷ []
