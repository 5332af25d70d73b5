-- The task that a request means: absent fields hold their meaning, and lists whose order means nothing are sorted.
use Rattle.std.specs.Prelude.{ℕ, ℤ, pos, negsuc, List, [], map, unwrap_or}
use Rattle.dimensions.specs.declared.text.Text.{Text}
use Rattle.dimensions.specs.Order.{sorted_by, sorted_pairs, sorted_texts}
use Rattle.task_props.specs.declared.file.File.{File}
use Rattle.task_props.specs.declared.properties.Properties.{Properties}
use Rattle.task_props.specs.declared.slice.Slice.{Slice}
use Rattle.task_props.specs.declared.new_task.NewTask.{NewTask}
use Rattle.task_checks.specs.declared.raw_task.RawFile.{RawFile}
use Rattle.task_checks.specs.declared.raw_task.RawTask.{RawTask}
use Rattle.task_checks.specs.declared.raw_task.RawSlice.{RawSlice}
use Rattle.task_checks.specs.declared.raw_task.RawProperties.{RawProperties}
use Rattle.task_props.specs.Sorted.{is_cache_below, is_file_below}
use Rattle.task_props.specs.Digests.{digest_in}
use Rattle.task_props.specs.FieldRules.{meant_tolerance}

-- a number that is not negative
abbrev pub natural : ℤ → ℕ
natural (pos n) = n
natural (negsuc n) = 0

-- of 64 hexadecimal digits
abbrev pub digest_of : Text → List ℕ
digest_of text = unwrap_or (digest_in text) []

abbrev pub file_of : RawFile → File
file_of raw = record { path = raw.path; digest = digest_of raw.digest; size = natural raw.size }

abbrev pub properties_of : RawProperties → Properties
properties_of raw = record {
  command = raw.command;
  env = sorted_pairs raw.env;
  dimensions = sorted_pairs raw.dimensions;
  caches = sorted_by is_cache_below raw.caches;
  inputs = sorted_by is_file_below (map file_of raw.inputs);
  outputs = sorted_texts raw.outputs;
  execution_timeout_secs = natural raw.execution_timeout_secs;
  io_timeout_secs = natural raw.io_timeout_secs;
  grace_period_secs = natural raw.grace_period_secs;
  idempotent = raw.idempotent;
}

abbrev pub slice_of : RawSlice → Slice
slice_of raw = record {
  expiration_secs = natural raw.expiration_secs;
  wait_for_capacity = raw.wait_for_capacity;
  properties = properties_of raw.properties;
}

abbrev pub task_of : RawTask → NewTask
task_of raw = record {
  name = raw.name;
  priority = natural raw.priority;
  bot_ping_tolerance_secs = natural (meant_tolerance raw.bot_ping_tolerance_secs);
  request_uuid = raw.request_uuid;
  task_slices = map slice_of raw.task_slices;
}
