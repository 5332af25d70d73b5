-- The limits of a pool: the key of each in a pool's table, the number that counts where the table leaves it out, and the range.
use Rattle.std.specs.Prelude.{ℕ, ℤ, pos, negsuc, Bool, List, [], ◌∷◌, codes, Result, Err}
use Rattle.toml.specs.Data.{Data, as_integer, get}
use Rattle.swarm_model.specs.Words.{is_between}
use Rattle.json_fields.specs.Readings.{◌>>=◌}
use Rattle.swarm_policy.specs.declared.limits.Limit.{Limit}
use Rattle.swarm_policy.specs.declared.limits.Limit.TheVariants.{ReuseAgeSecs, DeathTimeoutSecs, BlobLifeSecs, StoreUnits, MostTasks, MostBots, MostEntries, MostWeight, Retries}
use Rattle.swarm_policy.specs.declared.settings_rule.SettingsRule.{SettingsRule}
use Rattle.swarm_policy.specs.declared.settings_rule.SettingsRule.TheVariants.{Range}
use Rattle.swarm_policy.specs.declared.settings_fault.SettingsFault.{SettingsFault}
use Rattle.swarm_policy.specs.Fields.{or_default}
use Rattle.swarm_policy.specs.Readings.{at, keeping, or_wrong}

pub record Row : Type 0 where
  pub key : List ℕ
  pub default : ℕ
  pub least : ℕ
  pub most : ℕ

-- what counts for each limit
abbrev pub row_of : Limit → Row
row_of ReuseAgeSecs = record { key = codes "reuse_age_secs"; default = 604800; least = 0; most = 31536000 }
row_of DeathTimeoutSecs = record { key = codes "death_timeout_secs"; default = 600; least = 60; most = 2592000 }
row_of BlobLifeSecs = record { key = codes "blob_life_secs"; default = 604800; least = 60; most = 31536000 }
row_of StoreUnits = record { key = codes "store_units"; default = 1048576; least = 1; most = 4194304 }
row_of MostTasks = record { key = codes "most_tasks"; default = 262144; least = 1; most = 262144 }
row_of MostBots = record { key = codes "most_bots"; default = 4096; least = 1; most = 4096 }
row_of MostEntries = record { key = codes "most_entries"; default = 4194304; least = 1; most = 4194304 }
row_of MostWeight = record { key = codes "most_weight"; default = 134217728; least = 1; most = 134217728 }
row_of Retries = record { key = codes "retries"; default = 0; least = 0; most = 1 }

-- the limits in the order of the keys of a pool's table
abbrev pub limits : List Limit
limits = ReuseAgeSecs ∷ DeathTimeoutSecs ∷ BlobLifeSecs ∷ StoreUnits ∷ MostTasks ∷ MostBots ∷ MostEntries ∷ MostWeight ∷ Retries ∷ []

-- from the least to the most
abbrev pub is_in_row : Row → ℕ → Bool
is_in_row row n = is_between row.least row.most n

abbrev pub is_within : Limit → ℕ → Bool
is_within limit n = is_in_row (row_of limit) n

-- a whole number within the range
abbrev pub ranged : Row → ℤ → Result ℕ SettingsRule
ranged row (pos n) = keeping Range (is_in_row row) n
ranged row (negsuc n) = Err Range

-- a value that must be such a number
abbrev pub number_of : Row → Data → Result ℕ SettingsRule
number_of row d = or_wrong (as_integer d) >>= ranged row

-- the number at the key of a row
unfoldable pub number_in : Row → Data → Result ℕ SettingsFault
number_in row d = at row.key (or_default row.default (number_of row) (get row.key d))

-- the number of a pool's table
unfoldable pub number_at : Limit → Data → Result ℕ SettingsFault
number_at limit d = number_in (row_of limit) d
