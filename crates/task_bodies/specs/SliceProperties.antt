-- The properties of a slice in a body: their fields, in the order of their rules.
use Rattle.std.specs.Prelude.{ℕ, ℤ, pos, Bool, List, [], ◌∷◌, unwrap_or, Result, Ok, codes}
use Rattle.serde_json.specs.Data.{Data}
use Rattle.task_props.specs.declared.cache.Cache.{Cache}
use Rattle.task_props.specs.declared.prop_fault.PropFault.{PropFault}
use Rattle.task_checks.specs.declared.raw_task.RawFile.{RawFile}
use Rattle.task_checks.specs.declared.raw_task.RawProperties.{RawProperties}
use Rattle.task_bodies.specs.declared.slice_properties.RawLists.{RawLists}
use Rattle.task_bodies.specs.declared.slice_properties.RawTimes.{RawTimes}
use Rattle.json_fields.specs.Readings.{inside, ◌>>=◌}
use Rattle.json_fields.specs.Fields.{text_at, required_text_at, number_at, optional_number_at, flag_at, object_at, object_item, text_item, each_at, items_at, unknown_key, unless_unknown}

-- ---- the items of the lists

abbrev pub pair_keys : List (List ℕ)
pair_keys = codes "key" ∷ codes "value" ∷ []

-- a key with its value
unfoldable pub pair_in : Data → Result (List ℕ × List ℕ) PropFault
pair_in d = do
  key ← text_at (codes "key") d
  value ← text_at (codes "value") d
  unless_unknown (key, value) (unknown_key pair_keys d)

abbrev pub cache_keys : List (List ℕ)
cache_keys = codes "name" ∷ codes "path" ∷ []

abbrev pub cache_with : List ℕ → List ℕ → Cache
cache_with name path = record { name = name; path = path }

-- a cache by its name, with its path
unfoldable pub cache_in : Data → Result Cache PropFault
cache_in d = do
  name ← text_at (codes "name") d
  path ← text_at (codes "path") d
  unless_unknown (cache_with name path) (unknown_key cache_keys d)

abbrev pub input_keys : List (List ℕ)
input_keys = codes "path" ∷ codes "digest" ∷ codes "size" ∷ []

abbrev pub input_with : List ℕ → List ℕ → ℤ → RawFile
input_with path digest size = record { path = path; digest = digest; size = size }

-- a file by its path, with the digest and the size of its content; the digest must be there
unfoldable pub input_in : Data → Result RawFile PropFault
input_in d = do
  path ← text_at (codes "path") d
  digest ← required_text_at (codes "digest") d
  size ← number_at (codes "size") d
  unless_unknown (input_with path digest size) (unknown_key input_keys d)

-- ---- properties

abbrev pub list_keys : List (List ℕ)
list_keys = codes "command" ∷ codes "env" ∷ codes "dimensions" ∷ codes "caches" ∷ codes "inputs" ∷ codes "outputs" ∷ []

-- the lists; a command and dimensions must be there
unfoldable pub lists_in : Data → Result RawLists PropFault
lists_in d = do
  command ← each_at text_item (codes "command") d
  env ← items_at (object_item pair_in) (codes "env") d
  dimensions ← each_at (object_item pair_in) (codes "dimensions") d
  caches ← items_at (object_item cache_in) (codes "caches") d
  inputs ← items_at (object_item input_in) (codes "inputs") d
  outputs ← items_at text_item (codes "outputs") d
  Ok (record { command = command; env = env; dimensions = dimensions; caches = caches; inputs = inputs; outputs = outputs })

-- an absent grace period is 30 seconds
unfoldable pub grace_at : List ℕ → Data → Result ℤ PropFault
grace_at key d = do
  secs ← optional_number_at key d
  Ok (unwrap_or secs (pos 30))

unfoldable pub times_in : Data → Result RawTimes PropFault
times_in d = do
  execution ← number_at (codes "execution_timeout_secs") d
  io ← number_at (codes "io_timeout_secs") d
  grace ← grace_at (codes "grace_period_secs") d
  Ok (record { execution_timeout_secs = execution; io_timeout_secs = io; grace_period_secs = grace })

abbrev pub properties_with : RawLists → RawTimes → Bool → RawProperties
properties_with lists times idempotent = record {
  command = lists.command;
  env = lists.env;
  dimensions = lists.dimensions;
  caches = lists.caches;
  inputs = lists.inputs;
  outputs = lists.outputs;
  execution_timeout_secs = times.execution_timeout_secs;
  io_timeout_secs = times.io_timeout_secs;
  grace_period_secs = times.grace_period_secs;
  idempotent = idempotent;
}

abbrev pub property_keys : List (List ℕ)
property_keys =
    codes "command" ∷ codes "env" ∷ codes "dimensions" ∷ codes "caches" ∷ codes "inputs" ∷ codes "outputs"
    ∷ codes "execution_timeout_secs" ∷ codes "io_timeout_secs" ∷ codes "grace_period_secs" ∷ codes "idempotent" ∷ []

unfoldable pub properties_in : Data → Result RawProperties PropFault
properties_in d = do
  lists ← lists_in d
  times ← times_in d
  idempotent ← flag_at (codes "idempotent") d
  unless_unknown (properties_with lists times idempotent) (unknown_key property_keys d)

unfoldable pub properties_at : List ℕ → Data → Result RawProperties PropFault
properties_at key d = do
  properties ← object_at key d
  inside key (properties_in properties)
