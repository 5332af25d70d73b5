-- What is read of an object after other fields were taken out of it.
use Rattle.std.proofs.Common.{◌≡◌, ℕ, Bool, List, [], ◌∷◌, None, Ok, Err, refl, sym, ap, ◌∙◌}
use Rattle.std.specs.Prelude.{ℤ, Result, codes}
use Rattle.serde_json.specs.Data.{Data}
use Rattle.json_fields.specs.Readings.{at, inside, each_from, ◌>>=◌}
use Rattle.json_fields.specs.Fields.{text_in, required_text_in, number_in, optional_number_in, flag_in, flag_at, text_at, number_at, each_at, object_item, list_in, items_in, unknown_key}
use Rattle.json_fields.specs.Taken.{without, without_all}
use Rattle.json_fields.proofs.LeftFields.{text_in-without, required_text_in-without, number_in-without, optional_number_in-without, flag_in-without, list_in-without, items_in-without, unknown_key-without}
use Rattle.task_bodies.specs.SliceProperties.{pair_keys, cache_keys, input_keys, list_keys, property_keys, lists_in, grace_at, times_in, properties_with, properties_in}
use Rattle.task_props.specs.declared.prop_rule.PropRule.{PropRule}
use Rattle.task_props.specs.declared.prop_fault.PropFault.{PropFault}
use Rattle.task_checks.specs.declared.raw_task.RawSlice.{RawSlice}
use Rattle.task_bodies.specs.Tasks.{slice_in, fields_of}
use Rattle.task_bodies.specs.declared.slice_properties.RawLists.{RawLists}
use Rattle.task_bodies.specs.declared.slice_properties.RawTimes.{RawTimes}

-- ---- a pair

pub pair_value : (d : Data) → text_in (codes "value") (without (codes "key") d) ≡ text_in (codes "value") d
pair_value d = text_in-without (codes "value") (codes "key" ∷ []) d refl

pub pair_unknown : (d : Data) → unknown_key pair_keys (without (codes "value") (without (codes "key") d)) ≡ unknown_key pair_keys d
pair_unknown d = unknown_key-without pair_keys pair_keys d refl

pub ruleset pair_stays = (pair_value, pair_unknown)

-- ---- a cache

pub cache_path : (d : Data) → text_in (codes "path") (without (codes "name") d) ≡ text_in (codes "path") d
cache_path d = text_in-without (codes "path") (codes "name" ∷ []) d refl

pub cache_unknown : (d : Data) → unknown_key cache_keys (without (codes "path") (without (codes "name") d)) ≡ unknown_key cache_keys d
cache_unknown d = unknown_key-without cache_keys cache_keys d refl

pub ruleset cache_stays = (cache_path, cache_unknown)

-- ---- an input

pub input_digest : (d : Data) → required_text_in (codes "digest") (without (codes "path") d) ≡ required_text_in (codes "digest") d
input_digest d = required_text_in-without (codes "digest") (codes "path" ∷ []) d refl

pub input_size : (d : Data) → number_in (codes "size") (without (codes "digest") (without (codes "path") d)) ≡ number_in (codes "size") d
input_size d = number_in-without (codes "size") (codes "path" ∷ codes "digest" ∷ []) d refl

pub input_unknown : (d : Data) → unknown_key input_keys (without (codes "digest") (without (codes "path") d)) ≡ unknown_key input_keys d
input_unknown d = unknown_key-without input_keys (codes "path" ∷ codes "digest" ∷ []) d refl

pub ruleset input_stays = (input_digest, input_size, input_unknown)

-- ---- the lists of properties

pub env : (d : Data) → items_in (codes "env") (without (codes "command") d) ≡ items_in (codes "env") d
env d = items_in-without (codes "env") (codes "command" ∷ []) d refl

pub dimensions : (d : Data) → list_in (codes "dimensions") (without (codes "env") (without (codes "command") d)) ≡ list_in (codes "dimensions") d
dimensions d = list_in-without (codes "dimensions") (codes "command" ∷ codes "env" ∷ []) d refl

pub caches : (d : Data) → items_in (codes "caches") (without (codes "dimensions") (without (codes "env") (without (codes "command") d))) ≡ items_in (codes "caches") d
caches d = items_in-without (codes "caches") (codes "command" ∷ codes "env" ∷ codes "dimensions" ∷ []) d refl

pub inputs : (d : Data) → items_in (codes "inputs") (without (codes "caches") (without (codes "dimensions") (without (codes "env") (without (codes "command") d)))) ≡ items_in (codes "inputs") d
inputs d = items_in-without (codes "inputs") (codes "command" ∷ codes "env" ∷ codes "dimensions" ∷ codes "caches" ∷ []) d refl

pub outputs : (d : Data) → items_in (codes "outputs") (without (codes "inputs") (without (codes "caches") (without (codes "dimensions") (without (codes "env") (without (codes "command") d))))) ≡ items_in (codes "outputs") d
outputs d = items_in-without (codes "outputs") (codes "command" ∷ codes "env" ∷ codes "dimensions" ∷ codes "caches" ∷ codes "inputs" ∷ []) d refl

pub ruleset lists_stay = (env, dimensions, caches, inputs, outputs)

-- ---- what properties say beside their lists

pub times : (d : Data) → times_in (without_all list_keys d) ≡ times_in d
unfolding times_in grace_at
times d =
    rw (number_in-without (codes "execution_timeout_secs") list_keys d refl, number_in-without (codes "io_timeout_secs") list_keys d refl, optional_number_in-without (codes "grace_period_secs") list_keys d refl) refl

pub idempotent : (d : Data) → flag_in (codes "idempotent") (without_all list_keys d) ≡ flag_in (codes "idempotent") d
idempotent d = flag_in-without (codes "idempotent") list_keys d refl

pub properties_unknown : (d : Data) → unknown_key property_keys (without_all list_keys d) ≡ unknown_key property_keys d
properties_unknown d = unknown_key-without property_keys list_keys d refl

-- the properties, where what they say beside their lists is read after these were taken out
pub properties_read : (d e : Data) (lists : RawLists) (secs : RawTimes) (same : Bool) → e ≡ without_all list_keys d
    → lists_in d ≡ Ok lists → times_in e ≡ Ok secs → flag_at (codes "idempotent") e ≡ Ok same → unknown_key property_keys e ≡ None
    → properties_in d ≡ Ok (properties_with lists secs same)
unfolding properties_in
properties_read d e lists secs same left all timed flagged none =
    let timed_before : times_in d ≡ Ok secs = sym (times d) ∙ (ap times_in (sym left) ∙ timed) in
    let flagged_before : flag_at (codes "idempotent") d ≡ Ok same = ap (at (codes "idempotent")) (sym (idempotent d)) ∙ (ap (flag_at (codes "idempotent")) (sym left) ∙ flagged) in
    let none_before : unknown_key property_keys d ≡ None = sym (properties_unknown d) ∙ (ap (unknown_key property_keys) (sym left) ∙ none) in
    rw (all, timed_before, flagged_before, none_before) refl

pub ruleset properties_stay = (times, idempotent, properties_unknown)

-- ---- a task

pub priority : (d : Data) → number_in (codes "priority") (without (codes "name") d) ≡ number_in (codes "priority") d
priority d = number_in-without (codes "priority") (codes "name" ∷ []) d refl

pub tolerance : (d : Data) → number_in (codes "bot_ping_tolerance_secs") (without (codes "name") d) ≡ number_in (codes "bot_ping_tolerance_secs") d
tolerance d = number_in-without (codes "bot_ping_tolerance_secs") (codes "name" ∷ []) d refl

uuid : (d : Data) → text_in (codes "request_uuid") (without (codes "name") d) ≡ text_in (codes "request_uuid") d
uuid d = text_in-without (codes "request_uuid") (codes "name" ∷ []) d refl

slices : (d : Data) → list_in (codes "task_slices") (without (codes "request_uuid") (without (codes "name") d)) ≡ list_in (codes "task_slices") d
slices d = list_in-without (codes "task_slices") (codes "name" ∷ codes "request_uuid" ∷ []) d refl

-- what was read of a body before the uuid of its task: its name was taken out of it
pub record IsReadTo (d b : Data) (name : List ℕ) (high long : ℤ) : Type 0 where
  pub left : b ≡ without (codes "name") d
  pub named : text_at (codes "name") d ≡ Ok name
  pub at_high : number_at (codes "priority") b ≡ Ok high
  pub at_long : number_at (codes "bot_ping_tolerance_secs") b ≡ Ok long

numbers_before : (d b : Data) (key : List ℕ) (r : Result ℤ PropFault) → b ≡ without (codes "name") d → number_in key (without (codes "name") d) ≡ number_in key d → number_at key b ≡ r → number_at key d ≡ r
numbers_before d b key r left stays h = ap (at key) (sym stays) ∙ (ap (number_at key) (sym left) ∙ h)

uuid_before : (d b : Data) (r : Result (List ℕ) PropFault) → b ≡ without (codes "name") d → text_at (codes "request_uuid") b ≡ r → text_at (codes "request_uuid") d ≡ r
uuid_before d b r left h = ap (at (codes "request_uuid")) (sym (uuid d)) ∙ (ap (text_at (codes "request_uuid")) (sym left) ∙ h)

abbrev slices_by : Result (List Data) PropRule → Result (List RawSlice) PropFault
slices_by r = at (codes "task_slices") r >>= (λ ds. inside (codes "task_slices") (each_from (object_item slice_in) 0 ds))

slices_before : (d b e : Data) (r : Result (List RawSlice) PropFault) → b ≡ without (codes "name") d → e ≡ without (codes "request_uuid") b
    → each_at (object_item slice_in) (codes "task_slices") e ≡ r → each_at (object_item slice_in) (codes "task_slices") d ≡ r
slices_before d b e r left rest h =
    let was : list_in (codes "task_slices") e ≡ list_in (codes "task_slices") d =
    ap (list_in (codes "task_slices")) rest ∙ (ap (λ (x : Data). list_in (codes "task_slices") (without (codes "request_uuid") x)) left ∙ slices d) in
    ap slices_by (sym was) ∙ h

pub uuid_broken : (d b : Data) (name : List ℕ) (high long : ℤ) (fault : PropFault) → IsReadTo d b name high long → text_at (codes "request_uuid") b ≡ Err fault → fields_of d ≡ Err fault
unfolding fields_of
uuid_broken d b name high long fault read broken =
    let at_high = numbers_before d b (codes "priority") (Ok high) read.left (priority d) read.at_high in
    let at_long = numbers_before d b (codes "bot_ping_tolerance_secs") (Ok long) read.left (tolerance d) read.at_long in
    let own = uuid_before d b (Err fault) read.left broken in
    rw (read.named, at_high, at_long, own) refl

pub slices_broken : (d b e : Data) (name own : List ℕ) (high long : ℤ) (fault : PropFault) → IsReadTo d b name high long → text_at (codes "request_uuid") b ≡ Ok own → e ≡ without (codes "request_uuid") b
    → each_at (object_item slice_in) (codes "task_slices") e ≡ Err fault → fields_of d ≡ Err fault
unfolding fields_of
slices_broken d b e name own high long fault read found rest broken =
    let at_high = numbers_before d b (codes "priority") (Ok high) read.left (priority d) read.at_high in
    let at_long = numbers_before d b (codes "bot_ping_tolerance_secs") (Ok long) read.left (tolerance d) read.at_long in
    let own_is = uuid_before d b (Ok own) read.left found in
    let each = slices_before d b e (Err fault) read.left rest broken in
    rw (read.named, at_high, at_long, own_is, each) refl

pub task_read : (d b e : Data) (name own : List ℕ) (high long : ℤ) (all : List RawSlice) → IsReadTo d b name high long → text_at (codes "request_uuid") b ≡ Ok own → e ≡ without (codes "request_uuid") b
    → each_at (object_item slice_in) (codes "task_slices") e ≡ Ok all
    → fields_of d ≡ Ok (record { name = name; priority = high; bot_ping_tolerance_secs = long; request_uuid = own; task_slices = all })
unfolding fields_of
task_read d b e name own high long all read found rest read_all =
    let at_high = numbers_before d b (codes "priority") (Ok high) read.left (priority d) read.at_high in
    let at_long = numbers_before d b (codes "bot_ping_tolerance_secs") (Ok long) read.left (tolerance d) read.at_long in
    let own_is = uuid_before d b (Ok own) read.left found in
    let each = slices_before d b e (Ok all) read.left rest read_all in
    rw (read.named, at_high, at_long, own_is, each) refl

pub ruleset task_stays = (priority, tolerance)
