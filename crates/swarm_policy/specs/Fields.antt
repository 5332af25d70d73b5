-- The keys of a table, and what their values must be.
use Rattle.std.specs.Prelude.{ℕ, Bool, not, List, [], ◌∷◌, is_some, option_and_then, option_map, Option, Some, None, if◌then◌else◌, Result, Ok, Err}
use Rattle.std.specs.List.{list_any}
use Rattle.toml.specs.Data.{Data, Items, no_items, item, Members, no_members, member, as_str, as_array, as_table}
use Rattle.dimensions.specs.Alike.{same}
use Rattle.swarm_policy.specs.declared.settings_rule.SettingsRule.{SettingsRule}
use Rattle.swarm_policy.specs.declared.settings_rule.SettingsRule.TheVariants.{Missing, Unknown}
use Rattle.swarm_policy.specs.declared.settings_fault.SettingsFault.{SettingsFault}
use Rattle.swarm_policy.specs.declared.settings_fault.SettingsFault.TheVariants.{Broken}
use Rattle.swarm_policy.specs.Readings.{or_wrong}

-- a value that must be there
abbrev pub required : {A : Type 0} → (Data → Result A SettingsRule) → Option Data → Result A SettingsRule
required read None = Err Missing
required read (Some d) = read d

-- a value that has a default
abbrev pub or_default : {A : Type 0} → A → (Data → Result A SettingsRule) → Option Data → Result A SettingsRule
or_default default read None = Ok default
or_default default read (Some d) = read d

abbrev pub is_text : Data → Bool
is_text d = is_some (as_str d)

-- a value that must be a text
abbrev pub text_of : Data → Result (List ℕ) SettingsRule
text_of d = or_wrong (as_str d)

-- the items of an array, as a list
abbrev pub list_of : Items → List Data
list_of no_items = []
list_of (item d ds) = d ∷ list_of ds

-- the items of a value that must be a list
abbrev pub values_of : Data → Result (List Data) SettingsRule
values_of d = or_wrong (option_map list_of (as_array d))

abbrev pub is_table : Data → Bool
is_table d = is_some (as_table d)

-- ---- keys that aren't known

-- none of the known keys
abbrev pub is_unknown : List (List ℕ) → List ℕ → Bool
is_unknown known key = not (list_any (λ name. same name key) known)

-- the first key of a table, in order of bytes, that isn't known
abbrev pub first_unknown : List (List ℕ) → Members → Option (List ℕ)
first_unknown known no_members = None
first_unknown known (member key d ms) = if is_unknown known key then Some key else first_unknown known ms

-- the same of a value that is a table
unfoldable pub unknown_key : List (List ℕ) → Data → Option (List ℕ)
unknown_key known d = option_and_then (first_unknown known) (as_table d)

-- an unknown key breaks the rule `unknown` at its own name
abbrev pub unless_unknown : {A : Type 0} → A → Option (List ℕ) → Result A SettingsFault
unless_unknown x None = Ok x
unless_unknown x (Some key) = Err (Broken key Unknown)
