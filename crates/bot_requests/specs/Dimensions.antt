-- The dimensions that a bot tells.
use Rattle.std.specs.Prelude.{ℕ, List, [], ◌∷◌, ◌++◌, codes}
use Rattle.serde_json.specs.Data.{Data, string, object, member, no_members}
use Rattle.json_values.specs.Values.{list_data}
use Rattle.bot_dimensions.specs.Groups.{groups_of, groups_with_bot}

-- the names of the bot's caches, where there are any
abbrev pub caches_group : List (List ℕ) → List (List ℕ × List (List ℕ))
caches_group [] = []
caches_group (name ∷ names) = (codes "caches", name ∷ names) ∷ []

-- a key with its values
abbrev pub dimension_data : List ℕ × List (List ℕ) → Data
dimension_data group = object (member (codes "key") (string group.0) (member (codes "value") (list_data string group.1) no_members))

-- the bot's pairs by key, its caches, its name and its pool
abbrev pub dimensions_data : List (List ℕ × List ℕ) → List (List ℕ) → List ℕ → List ℕ → Data
dimensions_data pairs caches id pool = list_data dimension_data (groups_with_bot id pool (groups_of pairs ++ caches_group caches))
