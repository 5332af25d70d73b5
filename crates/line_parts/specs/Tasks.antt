-- The request for a task, as it is written and read.
use Rattle.std.proofs.Common.{◌≡◌, ℕ, ◌≤◌, ◌^◌, List, [], ◌∷◌, Bool, false, Option, Some, None, refl, arith}
use Rattle.std.specs.Prelude.{⊤, codes, unwrap_or}
use Rattle.std.specs.List.{All}
use Rattle.serde_json.specs.Data.{Data, string, boolean, object, member, no_members, depth}
use Rattle.serde_json.specs.Find.{as_str, as_bool}
use Rattle.serde_json.specs.Written.{has_float}
use Rattle.line_parts.specs.Types.{Text, Cache, File, Properties, Slice, NewTask}
use Rattle.task_props.specs.Shown.{later_members, properties_with, HasWordTimes}
use Rattle.task_props.proofs.NoFloats.{properties_are_plain}
use Rattle.line_parts.specs.Finding.{◌>>=◌, field, whole}
use Rattle.line_parts.specs.Lists.{list_data, list_in, list_reads_back, list_has_no_float, list_is_shallow}
use Rattle.line_parts.specs.Numbers.{number_reads_back}
use Rattle.line_parts.specs.Parts.{word_in, IsWord, pair_data, pair_in, set_in, cache_data, cache_in, file_data, file_in, HoldsFile}
use Rattle.line_parts.specs.PartLaws.{texts_reads_back, pair_is_shallow, cache_is_shallow, file_reads_back, file_is_shallow}

-- ---- properties

abbrev pub properties_data : Properties → Data
properties_data p = properties_with (list_data cache_data p.caches) (list_data pair_data p.dimensions) (list_data pair_data p.env) (list_data file_data p.inputs) p

unfoldable pub properties_in : Data → Option Properties
properties_in d = do
  caches ← field (list_in cache_in) (codes "caches") d
  command ← field (list_in as_str) (codes "command") d
  dimensions ← field set_in (codes "dimensions") d
  env ← field (list_in pair_in) (codes "env") d
  execution ← field word_in (codes "execution_timeout_secs") d
  grace ← field word_in (codes "grace_period_secs") d
  idempotent ← field as_bool (codes "idempotent") d
  inputs ← field (list_in file_in) (codes "inputs") d
  io ← field word_in (codes "io_timeout_secs") d
  outputs ← field (list_in as_str) (codes "outputs") d
  Some (record {
    command = command;
    env = env;
    dimensions = dimensions;
    caches = caches;
    inputs = inputs;
    outputs = outputs;
    execution_timeout_secs = execution;
    io_timeout_secs = io;
    grace_period_secs = grace;
    idempotent = idempotent;
  })

abbrev pub HoldsProperties : Properties → Type 0
HoldsProperties p = HasWordTimes p × All HoldsFile p.inputs

-- ---- slices

abbrev pub slice_data : Slice → Data
slice_data slice =
    object
    (member (codes "expiration_secs") (whole slice.expiration_secs)
    (member (codes "properties") (properties_data slice.properties)
    (member (codes "wait_for_capacity") (boolean slice.wait_for_capacity) no_members)))

abbrev pub slice_with : ℕ → Properties → Bool → Slice
slice_with secs properties waits = record { expiration_secs = secs; wait_for_capacity = waits; properties = properties }

abbrev pub slice_in : Data → Option Slice
slice_in d = do
  secs ← field word_in (codes "expiration_secs") d
  properties ← field properties_in (codes "properties") d
  waits ← field as_bool (codes "wait_for_capacity") d
  Some (slice_with secs properties waits)

abbrev pub HoldsSlice : Slice → Type 0
HoldsSlice slice = IsWord slice.expiration_secs × HoldsProperties slice.properties

-- ---- requests, without their uuid

unfoldable pub request_data : NewTask → Data
request_data task =
    object
    (member (codes "bot_ping_tolerance_secs") (whole task.bot_ping_tolerance_secs)
    (member (codes "name") (string task.name)
    (member (codes "priority") (whole task.priority)
    (member (codes "task_slices") (list_data slice_data task.task_slices) no_members))))

abbrev pub request_with : List ℕ → ℕ → List ℕ → ℕ → List Slice → NewTask
request_with uuid tolerance name priority slices =
    record { name = name; priority = priority; bot_ping_tolerance_secs = tolerance; request_uuid = uuid; task_slices = slices }

-- the request of a uuid
unfoldable pub request_in : List ℕ → Data → Option NewTask
request_in uuid d = do
  tolerance ← field word_in (codes "bot_ping_tolerance_secs") d
  name ← field as_str (codes "name") d
  priority ← field word_in (codes "priority") d
  slices ← field (list_in slice_in) (codes "task_slices") d
  Some (request_with uuid tolerance name priority slices)

abbrev pub HoldsRequest : NewTask → Type 0
HoldsRequest task = IsWord task.bot_ping_tolerance_secs × IsWord task.priority × All HoldsSlice task.task_slices

-- no uuid is null
abbrev pub uuid_of : List ℕ → Option Text
uuid_of [] = None
uuid_of (b ∷ bs) = Some (b ∷ bs)

-- ---- what is written is read back

all_hold : {A : Type 0} (xs : List A) → All (λ _. ⊤) xs
all_hold xs k d low = tt

pairs_reads_back : (pairs : List (Text × Text)) → list_in pair_in (list_data pair_data pairs) ≡ Some pairs
pairs_reads_back pairs = list_reads_back pair_data pair_in (λ _. ⊤) (λ _ _. refl) pairs (all_hold pairs)

caches_reads_back : (caches : List Cache) → list_in cache_in (list_data cache_data caches) ≡ Some caches
caches_reads_back caches = list_reads_back cache_data cache_in (λ _. ⊤) (λ _ _. refl) caches (all_hold caches)

files_reads_back : (files : List File) → All HoldsFile files → list_in file_in (list_data file_data files) ≡ Some files
files_reads_back files h = list_reads_back file_data file_in HoldsFile file_reads_back files h

pub properties_reads_back : (p : Properties) → HoldsProperties p → properties_in (properties_data p) ≡ Some p
unfolding properties_with later_members properties_in
properties_reads_back p h =
    rw (
      caches_reads_back p.caches,
      texts_reads_back p.command,
      pairs_reads_back p.dimensions,
      pairs_reads_back p.env,
      number_reads_back (2 ^ 32) p.execution_timeout_secs h.0.0,
      number_reads_back (2 ^ 32) p.grace_period_secs h.0.2,
      files_reads_back p.inputs h.1,
      number_reads_back (2 ^ 32) p.io_timeout_secs h.0.1,
      texts_reads_back p.outputs,
    ) refl

pub properties_has_no_float : (p : Properties) → has_float (properties_data p) ≡ false
properties_has_no_float p =
    properties_are_plain _ _ _ _
    (list_has_no_float cache_data (λ _. refl) p.caches)
    (list_has_no_float pair_data (λ _. refl) p.dimensions)
    (list_has_no_float pair_data (λ _. refl) p.env)
    (list_has_no_float file_data (λ _. refl) p.inputs)
    p

pub properties_is_shallow : (p : Properties) → depth (properties_data p) ≤ 3
unfolding properties_with later_members
properties_is_shallow p =
    omega (
      arith,
      list_is_shallow cache_data 1 cache_is_shallow p.caches,
      list_is_shallow string 0 (λ _. omega arith) p.command,
      list_is_shallow pair_data 1 pair_is_shallow p.dimensions,
      list_is_shallow pair_data 1 pair_is_shallow p.env,
      list_is_shallow file_data 1 file_is_shallow p.inputs,
      list_is_shallow string 0 (λ _. omega arith) p.outputs,
    )

pub slice_reads_back : (slice : Slice) → HoldsSlice slice → slice_in (slice_data slice) ≡ Some slice
slice_reads_back slice h = rw (number_reads_back (2 ^ 32) slice.expiration_secs h.0, properties_reads_back slice.properties h.1) refl

pub slice_has_no_float : (slice : Slice) → has_float (slice_data slice) ≡ false
slice_has_no_float slice = rw (properties_has_no_float slice.properties) refl

pub slice_is_shallow : (slice : Slice) → depth (slice_data slice) ≤ 4
slice_is_shallow slice = omega (arith, properties_is_shallow slice.properties)

slices_reads_back : (slices : List Slice) → All HoldsSlice slices → list_in slice_in (list_data slice_data slices) ≡ Some slices
slices_reads_back slices h = list_reads_back slice_data slice_in HoldsSlice slice_reads_back slices h

pub request_reads_back : (task : NewTask) → HoldsRequest task → request_in task.request_uuid (request_data task) ≡ Some task
unfolding request_data request_in
request_reads_back task h =
    rw (number_reads_back (2 ^ 32) task.bot_ping_tolerance_secs h.0, number_reads_back (2 ^ 32) task.priority h.1, slices_reads_back task.task_slices h.2) refl

pub request_has_no_float : (task : NewTask) → has_float (request_data task) ≡ false
unfolding request_data
request_has_no_float task = rw (list_has_no_float slice_data slice_has_no_float task.task_slices) refl

pub request_is_shallow : (task : NewTask) → depth (request_data task) ≤ 6
unfolding request_data
request_is_shallow task = omega (arith, list_is_shallow slice_data 4 slice_is_shallow task.task_slices)

pub uuid_reads_back : (uuid : List ℕ) → unwrap_or (uuid_of uuid) [] ≡ uuid
uuid_reads_back [] = refl
uuid_reads_back (b ∷ bs) = refl
