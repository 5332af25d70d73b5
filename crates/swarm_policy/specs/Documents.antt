-- The settings that a text says, or the first rule that it breaks.
use Rattle.std.specs.Prelude.{ℕ, Bool, nat_le, List, [], ◌∷◌, length, codes, Option, Some, None, if◌then◌else◌, Result, Ok, Err}
use Rattle.std.specs.Str.{is_utf8}
use Rattle.toml.specs.Data.{Data, Members, get_member}
use Rattle.toml.specs.Parse.{parse_document}
use Rattle.swarm_model.specs.declared.pool_settings.Settings.{Settings}
use Rattle.json_fields.specs.Readings.{◌>>=◌}
use Rattle.swarm_policy.specs.declared.settings_rule.SettingsRule.{SettingsRule}
use Rattle.swarm_policy.specs.declared.settings_rule.SettingsRule.TheVariants.{Toml, Count}
use Rattle.swarm_policy.specs.declared.settings_fault.SettingsFault.{SettingsFault}
use Rattle.swarm_policy.specs.declared.settings_fault.SettingsFault.TheVariants.{Broken}
use Rattle.swarm_policy.specs.Fields.{first_unknown, or_default, text_of, unless_unknown}
use Rattle.swarm_policy.specs.Pools.{pools_in}
use Rattle.swarm_policy.specs.Readings.{at, keeping}

-- a folder is named by at least one byte
abbrev pub is_folder : List ℕ → Bool
is_folder text = nat_le 1 (length text)

-- a value that must name a folder
abbrev pub folder_of : Data → Result (List ℕ) SettingsRule
folder_of d = text_of d >>= keeping Count is_folder

abbrev pub some_folder_of : Data → Result (Option (List ℕ)) SettingsRule
some_folder_of d = folder_of d >>= (λ folder. Ok (Some folder))

-- the folder of a document, which it may leave out
unfoldable pub store_at : Members → Result (Option (List ℕ)) SettingsFault
store_at t = at (codes "store") (or_default None some_folder_of (get_member (codes "store") t))

-- the keys of a document
abbrev pub top_keys : List (List ℕ)
top_keys = codes "store" ∷ codes "pools" ∷ []

-- the settings of a document's table
unfoldable pub settings_in : Members → Result Settings SettingsFault
settings_in t = do
  top ← unless_unknown t (first_unknown top_keys t)
  store ← store_at t
  pools ← pools_in (get_member (codes "pools") t)
  Ok (record { store = store; pools = pools })

abbrev pub or_no_toml : Option Members → Result Members SettingsFault
or_no_toml None = Err (Broken (codes "text") Toml)
or_no_toml (Some t) = Ok t

-- the table that a text is, where it is UTF-8 and TOML
abbrev pub table_of : List ℕ → Option Members
table_of text = if is_utf8 text then parse_document text else None

-- the settings of a text
unfoldable pub settings_of : List ℕ → Result Settings SettingsFault
settings_of text = or_no_toml (table_of text) >>= settings_in
