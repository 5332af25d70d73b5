-- The pools that a document says.
use Rattle.std.specs.Prelude.{ℕ, Bool, true, not, ◌&&◌, ◌==◌, List, [], ◌∷◌, ◌++◌, length, map, codes, decimal, Option, Result, Ok}
use Rattle.std.specs.List.{list_all, list_any}
use Rattle.toml.specs.Data.{Data, get}
use Rattle.dimensions.specs.Alike.{same}
use Rattle.dimensions.specs.Rules.{has_length_to, is_key_byte}
use Rattle.swarm_model.specs.declared.pool_settings.PoolSettings.{PoolSettings}
use Rattle.swarm_model.specs.Settings.{are_placed, keeps_rules}
use Rattle.swarm_model.specs.Words.{is_between}
use Rattle.json_fields.specs.Readings.{◌>>=◌}
use Rattle.swarm_policy.specs.declared.settings_rule.SettingsRule.{SettingsRule}
use Rattle.swarm_policy.specs.declared.settings_rule.SettingsRule.TheVariants.{WrongType, Count, Grammar, Repeated}
use Rattle.swarm_policy.specs.declared.settings_fault.SettingsFault.{SettingsFault}
use Rattle.swarm_policy.specs.Fields.{is_table, required, text_of, unknown_key, unless_unknown, values_of}
use Rattle.swarm_policy.specs.Grants.{grants_at}
use Rattle.swarm_policy.specs.declared.limits.Limit.TheVariants as limit
use Rattle.swarm_policy.specs.Limits.{limits, number_at, row_of}
use Rattle.swarm_policy.specs.Readings.{at, inside, keeping}

-- the keys of a pool's table
abbrev pub pool_keys : List (List ℕ)
pool_keys = codes "name" ∷ (map (λ limit. (row_of limit).key) limits ++ codes "grants" ∷ [])

-- the pool has the name
abbrev pub has_name : List ℕ → PoolSettings → Bool
has_name name pool = same pool.name name

-- none of the pools has the name
abbrev pub is_new : List PoolSettings → List ℕ → Bool
is_new pools name = not (list_any (has_name name) pools)

-- the name of a pool, which none before it has
unfoldable pub name_in : List PoolSettings → Option Data → Result (List ℕ) SettingsRule
name_in before found = do
  text ← required text_of found
  short ← keeping Count (has_length_to 64) text
  name ← keeping Grammar (list_all is_key_byte) short
  keeping Repeated (is_new before) name

-- the same, at its key
unfoldable pub name_at : List PoolSettings → Data → Result (List ℕ) SettingsFault
name_at before d = at (codes "name") (name_in before (get (codes "name") d))

-- one pool, after those before it
unfoldable pub pool_of : List PoolSettings → Data → Result PoolSettings SettingsFault
pool_of before d = do
  table ← unless_unknown d (unknown_key pool_keys d)
  name ← name_at before d
  reuse_age_secs ← number_at limit.ReuseAgeSecs d
  death_timeout_secs ← number_at limit.DeathTimeoutSecs d
  blob_life_secs ← number_at limit.BlobLifeSecs d
  store_units ← number_at limit.StoreUnits d
  most_tasks ← number_at limit.MostTasks d
  most_bots ← number_at limit.MostBots d
  most_entries ← number_at limit.MostEntries d
  most_weight ← number_at limit.MostWeight d
  retries ← number_at limit.Retries d
  grants ← grants_at d
  Ok (record {
    place = length before;
    name = name;
    reuse_age_secs = reuse_age_secs;
    death_timeout_secs = death_timeout_secs;
    blob_life_secs = blob_life_secs;
    store_units = store_units;
    most_tasks = most_tasks;
    most_bots = most_bots;
    most_entries = most_entries;
    most_weight = most_weight;
    retries = retries;
    grants = grants;
  })

-- the pools so far, and those that follow
abbrev pub pools_from : List PoolSettings → List Data → Result (List PoolSettings) SettingsFault
pools_from before [] = Ok before
pools_from before (d ∷ ds) =
    inside (decimal (length before)) (pool_of before d) >>= (λ pool. pools_from (before ++ pool ∷ []) ds)

-- 1 to 4 tables
unfoldable pub tables_in : Option Data → Result (List Data) SettingsRule
tables_in found = do
  values ← required values_of found
  tables ← keeping WrongType (list_all is_table) values
  keeping Count (λ ds. is_between 1 4 (length ds)) tables

-- the pools of a value that must be there
unfoldable pub pools_in : Option Data → Result (List PoolSettings) SettingsFault
pools_in found = at (codes "pools") (tables_in found) >>= (λ tables. inside (codes "pools") (pools_from [] tables))

-- ---- what pools that are read keep

-- no two pools have one name
abbrev pub have_own_names : List PoolSettings → Bool
have_own_names [] = true
have_own_names (pool ∷ pools) = not (list_any (λ other. has_name other.name pool) pools) && have_own_names pools

-- each pool keeps its rules, and they stand in the order of their places, each with a name of its own
unfoldable pub are_pools : List PoolSettings → Bool
are_pools pools = list_all keeps_rules pools && (are_placed 0 pools && have_own_names pools)

-- a pool that keeps its rules, at the place behind the others, with a name of its own
unfoldable pub is_next_pool : List PoolSettings → PoolSettings → Bool
is_next_pool before pool = keeps_rules pool && (pool.place == length before && is_new before pool.name)
