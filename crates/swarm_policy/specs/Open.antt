-- The settings of a server that was given none.
use Rattle.std.specs.Prelude.{[], ◌∷◌, codes, None}
use Rattle.swarm_model.specs.declared.pool_settings.Grant.{Grant}
use Rattle.swarm_model.specs.declared.pool_settings.PoolSettings.{PoolSettings}
use Rattle.swarm_model.specs.declared.pool_settings.Settings.{Settings}
use Rattle.swarm_model.specs.Permissions.{permissions}
use Rattle.swarm_policy.specs.declared.limits.Limit.TheVariants as limit
use Rattle.swarm_policy.specs.Limits.{row_of}

-- everyone may do everything
abbrev pub everyone : Grant
everyone = record { caller = codes "*"; permissions = permissions }

-- the pool `default`, whose limits are the defaults
abbrev pub open_pool : PoolSettings
open_pool =
    record {
      place = 0;
      name = codes "default";
      reuse_age_secs = (row_of limit.ReuseAgeSecs).default;
      death_timeout_secs = (row_of limit.DeathTimeoutSecs).default;
      blob_life_secs = (row_of limit.BlobLifeSecs).default;
      store_units = (row_of limit.StoreUnits).default;
      most_tasks = (row_of limit.MostTasks).default;
      most_bots = (row_of limit.MostBots).default;
      most_entries = (row_of limit.MostEntries).default;
      most_weight = (row_of limit.MostWeight).default;
      retries = (row_of limit.Retries).default;
      grants = everyone ∷ [];
    }

-- that pool alone, kept nowhere
abbrev pub open_settings : Settings
open_settings = record { store = None; pools = open_pool ∷ [] }
