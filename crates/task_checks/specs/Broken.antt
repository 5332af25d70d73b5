-- The first rule that a request for a task breaks: in the order of its fields, then by its slices as a whole.
use Rattle.std.specs.Prelude.{◌≡◌, ℕ, ◌+◌, List, [], ◌∷◌, length, map, Option, Some, None, ⊤}
use Rattle.std.specs.Option.{option_map}
use Rattle.dimensions.specs.declared.text.Text.{Text}
use Rattle.dimensions.specs.Choosing.{◌or_else◌}
use Rattle.task_props.specs.declared.prop_rule.PropRule.{PropRule}
use Rattle.task_props.specs.declared.prop_fault.PropFault.{PropFault}
use Rattle.task_props.specs.declared.prop_fault.PropFault.TheVariants.{Memory, Broken}
use Rattle.task_props.specs.declared.task_field.TaskField.{TaskField}
use Rattle.task_props.specs.declared.task_field.TaskField.TheVariants as task_field
use Rattle.task_props.specs.declared.task_field.SliceField.{SliceField}
use Rattle.task_props.specs.declared.task_field.SliceField.TheVariants as slice_field
use Rattle.task_checks.specs.declared.raw_task.RawTask.{RawTask}
use Rattle.task_checks.specs.declared.raw_task.RawSlice.{RawSlice}
use Rattle.task_props.specs.Fields.{task_path}
use Rattle.task_props.specs.FieldRules.{name_rule, priority_rule, meant_tolerance, tolerance_rule, uuid_rule, expiration_rule, timeout_rule, grace_rule, count_rule, broken_at, broken_command, broken_dimensions}
use Rattle.task_props.specs.ItemRules.{broken_env, broken_caches, broken_outputs}
use Rattle.task_checks.specs.Inputs.{broken_inputs}
use Rattle.task_checks.specs.Reading.{slice_of}
use Rattle.task_props.specs.Slices.{slices_rule}

-- by a slice
abbrev pub broken_slice : RawSlice → Option (SliceField × PropRule)
broken_slice slice =
    option_map (broken_at slice_field.ExpirationSecs) (expiration_rule slice.expiration_secs)
    or_else broken_command slice.properties.command
    or_else broken_env slice.properties.env
    or_else broken_dimensions slice.properties.dimensions
    or_else broken_caches slice.properties.caches
    or_else broken_inputs slice.properties.inputs
    or_else broken_outputs slice.properties.outputs
    or_else option_map (broken_at slice_field.ExecutionTimeoutSecs) (timeout_rule slice.properties.execution_timeout_secs)
    or_else option_map (broken_at slice_field.IoTimeoutSecs) (timeout_rule slice.properties.io_timeout_secs)
    or_else option_map (broken_at slice_field.GracePeriodSecs) (grace_rule slice.properties.grace_period_secs)

abbrev pub in_slice : ℕ → SliceField × PropRule → TaskField × PropRule
in_slice place broken = (task_field.InSlice place broken.0, broken.1)

-- by the slices, where the list begins at a place
abbrev pub first_broken_slice : ℕ → List RawSlice → Option (TaskField × PropRule)
first_broken_slice place [] = None
first_broken_slice place (slice ∷ slices) = option_map (in_slice place) (broken_slice slice) or_else first_broken_slice (place + 1) slices

abbrev pub first_broken_field : RawTask → Option (TaskField × PropRule)
first_broken_field raw =
    option_map (broken_at task_field.Name) (name_rule raw.name)
    or_else option_map (broken_at task_field.Priority) (priority_rule raw.priority)
    or_else option_map (broken_at task_field.BotPingToleranceSecs) (tolerance_rule (meant_tolerance raw.bot_ping_tolerance_secs))
    or_else option_map (broken_at task_field.RequestUuid) (uuid_rule raw.request_uuid)
    or_else option_map (broken_at task_field.TaskSlices) (count_rule 8 (length raw.task_slices))
    or_else first_broken_slice 0 raw.task_slices

abbrev pub with_path : TaskField × PropRule → Text × PropRule
with_path broken = (task_path broken.0, broken.1)

-- by the slices as a whole, where each is in order
abbrev pub broken_slices : RawTask → Option (TaskField × PropRule)
broken_slices raw = option_map (broken_at task_field.TaskSlices) (slices_rule (map slice_of raw.task_slices))

-- the path of the field, and the rule
abbrev pub first_broken_task : RawTask → Option (Text × PropRule)
first_broken_task raw = option_map with_path (first_broken_field raw or_else broken_slices raw)

-- a fault tells the broken rule, or want of memory
abbrev pub IsFaultOf : Option (Text × PropRule) → PropFault → Type 0
IsFaultOf broken Memory = ⊤
IsFaultOf broken (Broken field rule) = broken ≡ Some (field, rule)
