-- Where no rule is broken by a request, none is by a slice of it, nor by the task that it means.
use Rattle.std.proofs.Common.{◌≡◌, ℕ, ◌+◌, List, [], ◌∷◌, length, Option, None, true, is_none, refl}
use Rattle.std.specs.List.{All, list_all}
use Rattle.std.proofs.lemmas.List.{length-map}
use Rattle.std.specs.Option.{option_map}
use Rattle.std.proofs.lemmas.List.Elements.{All-nil, All-cons}
use Rattle.dimensions.specs.Choosing.{◌or_else◌}
use Rattle.dimensions.proofs.Choosing.{none-first, none-other, option_map-none}
use Rattle.task_props.specs.declared.new_task.NewTask.{NewTask}
use Rattle.task_checks.specs.declared.raw_task.RawTask.{RawTask}
use Rattle.task_checks.specs.declared.raw_task.RawSlice.{RawSlice}
use Rattle.task_props.specs.declared.task_field.TaskField.TheVariants as task_field
use Rattle.task_props.specs.FieldRules.{name_rule, priority_rule, meant_tolerance, tolerance_rule, uuid_rule, count_rule, broken_at}
use Rattle.task_checks.specs.Broken.{broken_slice, in_slice, first_broken_slice, first_broken_field}
use Rattle.task_props.specs.Checked.{is_sound_slice, is_checked}
use Rattle.task_checks.specs.Reading.{slice_of, task_of}
use Rattle.task_props.specs.Slices.{slices_rule}
use Rattle.task_checks.proofs.SliceParts.{natural_in_range}

abbrev IsUnbroken : RawSlice → Type 0
IsUnbroken slice = broken_slice slice ≡ None

pub each_unbroken : (place : ℕ) (slices : List RawSlice) → first_broken_slice place slices ≡ None → All IsUnbroken slices
each_unbroken place [] none = All-nil IsUnbroken
each_unbroken place (slice ∷ slices) none =
    let here = option_map-none (in_slice place) (broken_slice slice) (none-first (option_map (in_slice place) (broken_slice slice)) (first_broken_slice (place + 1) slices) none) in
    All-cons IsUnbroken slice slices here (each_unbroken (place + 1) slices (none-other (option_map (in_slice place) (broken_slice slice)) (first_broken_slice (place + 1) slices) none))

record Parts (raw : RawTask) : Type 0 where
  pub name : name_rule raw.name ≡ None
  pub priority : priority_rule raw.priority ≡ None
  pub tolerance : tolerance_rule (meant_tolerance raw.bot_ping_tolerance_secs) ≡ None
  pub uuid : uuid_rule raw.request_uuid ≡ None
  pub count : count_rule 8 (length raw.task_slices) ≡ None
  pub slices : first_broken_slice 0 raw.task_slices ≡ None

here : {A B : Type 0} (f : A → B) (x : Option A) (y : Option B) → (option_map f x or_else y) ≡ None → x ≡ None
here f x y none = option_map-none f x (none-first (option_map f x) y none)

parts : (raw : RawTask) → first_broken_field raw ≡ None → Parts raw
parts raw none =
    let after_name = none-other (option_map (broken_at task_field.Name) (name_rule raw.name)) _ none in
    let after_priority = none-other (option_map (broken_at task_field.Priority) (priority_rule raw.priority)) _ after_name in
    let after_tolerance = none-other (option_map (broken_at task_field.BotPingToleranceSecs) (tolerance_rule (meant_tolerance raw.bot_ping_tolerance_secs))) _ after_priority in
    let after_uuid = none-other (option_map (broken_at task_field.RequestUuid) (uuid_rule raw.request_uuid)) _ after_tolerance in
    record {
      name = here (broken_at task_field.Name) (name_rule raw.name) _ none;
      priority = here (broken_at task_field.Priority) (priority_rule raw.priority) _ after_name;
      tolerance = here (broken_at task_field.BotPingToleranceSecs) (tolerance_rule (meant_tolerance raw.bot_ping_tolerance_secs)) _ after_priority;
      uuid = here (broken_at task_field.RequestUuid) (uuid_rule raw.request_uuid) _ after_tolerance;
      count = here (broken_at task_field.TaskSlices) (count_rule 8 (length raw.task_slices)) _ after_uuid;
      slices = none-other (option_map (broken_at task_field.TaskSlices) (count_rule 8 (length raw.task_slices))) _ after_uuid;
    }

pub slices_unbroken : (raw : RawTask) → first_broken_field raw ≡ None → All IsUnbroken raw.task_slices
slices_unbroken raw none = each_unbroken 0 raw.task_slices (parts raw none).slices

-- what is left to check of such a task is the rule on its slices as a whole
pub task_unbroken : (raw : RawTask) (task : NewTask) → first_broken_field raw ≡ None → task ≡ task_of raw → list_all is_sound_slice task.task_slices ≡ true → is_checked task ≡ is_none (slices_rule task.task_slices)
task_unbroken raw task none is sound =
    let p = parts raw none in
    let priority = natural_in_range 0 255 raw.priority p.priority in
    let tolerance = natural_in_range 60 1200 (meant_tolerance raw.bot_ping_tolerance_secs) p.tolerance in
    let sound = rw is at sound in
    rw (is, p.name, priority, tolerance, p.uuid, length-map raw.task_slices slice_of, p.count, sound) refl
