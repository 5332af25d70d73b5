-- Machines, one for each pool, in the order of the pools.
use Rattle.std.specs.Prelude.{ℕ, true, List, [], map, Option, slice_index_or}
use Rattle.swarm_keeper.specs.Tables.{Tables}
use Rattle.swarm_model.specs.declared.pool_settings.PoolSettings.{PoolSettings}
use Rattle.swarm_model.specs.Bases.{Base, empty_base}
use Rattle.swarm_model.specs.MachineState.{MachineState}
use Rattle.pool_doors.specs.Doors.{Logs, DoorState, Writer}

-- the settings of each machine's pool
abbrev pub pools_of : List MachineState → List PoolSettings
pools_of machines = map (λ m. m.pool.settings) machines

-- the log of the machine at each place, [] where there is none
abbrev pub logs_of : List MachineState → Logs
logs_of machines place = slice_index_or (map (λ m. m.log) machines) place []

-- settings where there is no pool
abbrev pub no_pool : PoolSettings
no_pool = record {
  place = 0;
  name = [];
  reuse_age_secs = 0;
  death_timeout_secs = 0;
  blob_life_secs = 0;
  store_units = 0;
  most_tasks = 0;
  most_bots = 0;
  most_entries = 0;
  most_weight = 0;
  retries = 0;
  grants = [];
}

-- where the log at each place begins, of these, and where there is none that of no pool
abbrev pub start_at : List Base → ℕ → Base
start_at starts place = slice_index_or starts place (empty_base no_pool)

-- where the log of each machine begins
abbrev pub starts_of : List MachineState → List Base
starts_of machines = map (λ m. m.start) machines

-- how a door writes alone, with the number 0, to logs that begin there
abbrev pub own_writer : List Base → Writer
own_writer starts = record { starts = start_at starts; numbers = λ p. 0; alone = true; logs = λ p. []; joined = λ p. []; made = λ p. 0 }

-- a door to which these machines belong, whose keepers tell these records, and failed so often
abbrev pub own_door : Option (List ℕ) → List MachineState → List (Option Tables) → ℕ → ℕ → DoorState
own_door store machines records faults calls = record {
  settings = record { store = store; pools = pools_of machines };
  seen = logs_of machines;
  records = records;
  writer = own_writer (starts_of machines);
  faults = faults;
  calls = calls;
}
