-- The rules on the inputs of a slice, as they were read.
use Rattle.std.specs.Prelude.{Bool, List, [], length, Option}
use Rattle.std.specs.List.{list_any}
use Rattle.std.specs.Option.{option_map}
use Rattle.dimensions.specs.declared.text.Text.{Text}
use Rattle.dimensions.specs.Alike.{same}
use Rattle.dimensions.specs.Choosing.{when, ◌or_else◌}
use Rattle.task_props.specs.declared.prop_rule.PropRule.{PropRule}
use Rattle.task_props.specs.declared.prop_rule.PropRule.TheVariants as prop_rule
use Rattle.task_props.specs.declared.task_field.SliceField.{SliceField}
use Rattle.task_props.specs.declared.task_field.SliceField.TheVariants as slice_field
use Rattle.task_checks.specs.declared.raw_task.RawFile.{RawFile}
use Rattle.task_props.specs.FieldRules.{broken_at, digest_rule, size_rule}
use Rattle.task_props.specs.ItemRules.{most_rule, first_broken_item}
use Rattle.task_props.specs.Paths.{path_rule}

abbrev pub has_input_path : Text → RawFile → Bool
has_input_path path file = same file.path path

-- no path stands twice
abbrev pub broken_input : List RawFile → RawFile → Option (SliceField × PropRule)
broken_input earlier file =
    option_map (broken_at (slice_field.InputPath (length earlier))) (path_rule file.path or_else when (list_any (has_input_path file.path) earlier) prop_rule.Repeated)
    or_else option_map (broken_at (slice_field.InputDigest (length earlier))) (digest_rule file.digest)
    or_else option_map (broken_at (slice_field.InputSize (length earlier))) (size_rule file.size)

-- at most 64 files
abbrev pub broken_inputs : List RawFile → Option (SliceField × PropRule)
broken_inputs files =
    option_map (broken_at slice_field.Inputs) (most_rule 64 (length files))
    or_else first_broken_item broken_input [] files
