-- The request for a task in a body: its fields, in the order of their rules.
use Rattle.std.specs.Prelude.{ℕ, ℤ, Bool, List, Option, Some, None, Result, Ok, Err, codes}
use Rattle.serde_json.specs.Data.{Data}
use Rattle.task_props.specs.declared.prop_rule.PropRule.{PropRule}
use Rattle.task_props.specs.declared.prop_fault.PropFault.{PropFault}
use Rattle.task_props.specs.declared.prop_fault.PropFault.TheVariants.{Broken}
use Rattle.task_checks.specs.declared.raw_task.RawTask.{RawTask}
use Rattle.task_checks.specs.declared.raw_task.RawSlice.{RawSlice}
use Rattle.task_props.specs.declared.new_task.NewTask.{NewTask}
use Rattle.task_checks.specs.Broken.{first_broken_task}
use Rattle.task_checks.specs.Reading.{task_of}
use Rattle.json_fields.specs.Readings.{◌>>=◌}
use Rattle.json_fields.specs.Fields.{text_at, number_at, flag_at, object_item, each_at}
use Rattle.task_bodies.specs.SliceProperties.{properties_at}

-- when a slice expires, and whether it waits
unfoldable pub terms_in : Data → Result (ℤ × Bool) PropFault
terms_in d = do
  secs ← number_at (codes "expiration_secs") d
  waits ← flag_at (codes "wait_for_capacity") d
  Ok (secs, waits)

unfoldable pub slice_in : Data → Result RawSlice PropFault
slice_in d = do
  terms ← terms_in d
  properties ← properties_at (codes "properties") d
  Ok (record { expiration_secs = terms.0; wait_for_capacity = terms.1; properties = properties })

unfoldable pub fields_of : Data → Result RawTask PropFault
fields_of d = do
  name ← text_at (codes "name") d
  priority ← number_at (codes "priority") d
  tolerance ← number_at (codes "bot_ping_tolerance_secs") d
  uuid ← text_at (codes "request_uuid") d
  slices ← each_at (object_item slice_in) (codes "task_slices") d
  Ok (record { name = name; priority = priority; bot_ping_tolerance_secs = tolerance; request_uuid = uuid; task_slices = slices })

abbrev pub unless_task_broken : NewTask → Option (List ℕ × PropRule) → Result NewTask PropFault
unless_task_broken task None = Ok task
unless_task_broken task (Some broken) = Err (Broken broken.0 broken.1)

-- the task that the fields mean, where they break no rule
unfoldable pub checked : RawTask → Result NewTask PropFault
checked raw = unless_task_broken (task_of raw) (first_broken_task raw)

-- all fields are read before the other rules are tried
unfoldable pub task_in : Data → Result NewTask PropFault
task_in d = do
  raw ← fields_of d
  checked raw
