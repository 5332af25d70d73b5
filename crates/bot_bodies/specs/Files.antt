-- The files that a bot reports.
use Rattle.std.specs.Prelude.{ℕ, List, Option, Some, None, Result, Ok, Err, codes}
use Rattle.serde_json.specs.Data.{Data}
use Rattle.task_props.specs.declared.file.File.{File}
use Rattle.task_props.specs.declared.prop_rule.PropRule.{PropRule}
use Rattle.task_props.specs.declared.prop_fault.PropFault.{PropFault}
use Rattle.task_props.specs.Paths.{path_rule}
use Rattle.task_checks.specs.declared.raw_task.RawFile.{RawFile}
use Rattle.json_fields.specs.Readings.{at, ◌>>=◌}
use Rattle.json_fields.specs.Fields.{text_at, required_text_at, number_at, object_item, items_at}
use Rattle.json_fields.specs.Digests.{digest_at}
use Rattle.json_fields.specs.Ranges.{whole_at}
use Rattle.json_fields.specs.Checks.{checked_items}

-- ---- fields

unfoldable pub file_in : Data → Result RawFile PropFault
file_in d = do
  path ← text_at (codes "path") d
  digest ← required_text_at (codes "digest") d
  size ← number_at (codes "size") d
  Ok (record { path = path; digest = digest; size = size })

-- an absent list is empty
abbrev pub files_in : Data → Result (List RawFile) PropFault
files_in d = items_at (object_item file_in) (codes "files") d

-- ---- rules

abbrev pub unless_path_broken : List ℕ → Option PropRule → Result (List ℕ) PropRule
unless_path_broken path None = Ok path
unless_path_broken path (Some rule) = Err rule

-- a path below a folder
abbrev pub path_of : List ℕ → Result (List ℕ) PropRule
path_of path = unless_path_broken path (path_rule path)

unfoldable pub file_of : RawFile → Result File PropFault
file_of raw = do
  path ← at (codes "path") (path_of raw.path)
  digest ← digest_at (codes "digest") raw.digest
  size ← whole_at (codes "size") 0 16777216 raw.size
  Ok (record { path = path; digest = digest; size = size })

-- at most 64 files
abbrev pub files_of : List RawFile → Result (List File) PropFault
files_of raws = checked_items file_of (codes "files") 64 raws
