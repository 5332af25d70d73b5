-- The paths of files and folders, below a folder.
use Rattle.std.specs.Prelude.{ℕ, Bool, not, ◌||◌, ◌==◌, List, Option, codes}
use Rattle.std.specs.List.{list_any, slice_split}
use Rattle.std.specs.Char.{is_ascii_control}
use Rattle.task_props.specs.Types.{Text, PropRule, Count, Grammar}
use Rattle.dimensions.specs.Alike.{same}
use Rattle.dimensions.specs.Choosing.{when, ◌or_else◌}
use Rattle.dimensions.specs.Rules.{has_length_to}

abbrev pub is_slash : ℕ → Bool
is_slash byte = byte == 47

-- a control character or a backslash
abbrev pub is_barred : ℕ → Bool
is_barred byte = is_ascii_control byte || byte == 92

-- empty, `.` or `..`
abbrev pub names_nothing : Text → Bool
names_nothing part = same part (codes "") || (same part (codes ".") || same part (codes ".."))

-- the parts of a path, cut at each '/'
abbrev pub parts : Text → List Text
parts path = slice_split is_slash path

-- 1 to 255 bytes, none of them barred, in parts that each name something
abbrev pub path_rule : Text → Option PropRule
path_rule path =
    when (not (has_length_to 255 path)) Count
    or_else when (list_any is_barred path || list_any names_nothing (parts path)) Grammar
