-- Small values for worked examples and logs.
use Rattle.std.specs.Prelude.{ℕ, ℤ, true, false, [], ◌∷◌, codes}
use Rattle.swarm_model.specs.Types.{Properties, NewTask, PoolSettings, Last}
use Rattle.task_props.specs.Examples.{small}

abbrev pub settings : PoolSettings
settings =
    record {
      place = 0;
      name = codes "default";
      reuse_age_secs = 604800;
      death_timeout_secs = 600;
      blob_life_secs = 604800;
      store_units = 1048576;
      most_tasks = 262144;
      most_bots = 4096;
      most_entries = 4194304;
      most_weight = 134217728;
      retries = 0;
      grants = [];
    }

abbrev pub properties : Properties
properties = small

-- the command `true` on any bot of the pool, within so many seconds
abbrev pub small_task : ℕ → NewTask
small_task secs =
    record {
      name = [];
      priority = 0;
      bot_ping_tolerance_secs = 1200;
      request_uuid = [];
      task_slices = (record { expiration_secs = secs; wait_for_capacity = true; properties = properties }) ∷ [];
    }

-- the report of a run that ended by itself
abbrev pub exited_with : ℤ → Last
exited_with code = record { exit_code = code; duration_ms = 10; hard_timeout = false; io_timeout = false; dropped = 0; files = [] }
