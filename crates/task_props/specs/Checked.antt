-- Which tasks have been checked.
use Rattle.std.specs.Prelude.{pos, Bool, not, ◌&&◌, nat_le, List, length, is_none}
use Rattle.std.specs.List.{list_all}
use Rattle.task_props.specs.Types.{Text, Cache, File, Properties, Slice, NewTask}
use Rattle.dimensions.specs.Order.{is_rising_by, is_text_below}
use Rattle.dimensions.specs.Rules.{are_checked}
use Rattle.task_props.specs.FieldRules.{name_rule, priority_rule, tolerance_rule, uuid_rule, expiration_rule, timeout_rule, grace_rule, count_rule, broken_command}
use Rattle.task_props.specs.Sorted.{is_pair, is_key_below, is_cache, is_name_below, is_file, is_path_below, is_path, has_path_twice}
use Rattle.task_props.specs.Slices.{pool_of_slices, slices_rule}

-- at most 64 pairs, the keys rising
abbrev pub is_env : List (Text × Text) → Bool
is_env env = nat_le (length env) 64 && (list_all is_pair env && is_rising_by is_key_below env)

-- at most 8 caches, the names rising, and no path twice
abbrev pub are_caches : List Cache → Bool
are_caches caches = nat_le (length caches) 8 && (list_all is_cache caches && (is_rising_by is_name_below caches && not (has_path_twice caches)))

-- at most 64 paths, rising
abbrev pub are_outputs : List Text → Bool
are_outputs paths = nat_le (length paths) 64 && (list_all is_path paths && is_rising_by is_text_below paths)

-- at most 64 files, the paths rising
abbrev pub are_inputs : List File → Bool
are_inputs files = nat_le (length files) 64 && (list_all is_file files && is_rising_by is_path_below files)

abbrev pub has_lists : Properties → Bool
has_lists properties = is_env properties.env && (are_caches properties.caches && (are_inputs properties.inputs && are_outputs properties.outputs))

abbrev pub has_times : Properties → Bool
has_times properties =
    is_none (timeout_rule (pos properties.execution_timeout_secs))
    && (is_none (timeout_rule (pos properties.io_timeout_secs)) && is_none (grace_rule (pos properties.grace_period_secs)))

-- no rule is broken, and lists whose order means nothing are sorted
abbrev pub are_sound : Properties → Bool
are_sound properties =
    is_none (broken_command properties.command)
    && are_checked properties.dimensions
    && has_lists properties
    && has_times properties

abbrev pub is_sound_slice : Slice → Bool
is_sound_slice slice = is_none (expiration_rule (pos slice.expiration_secs)) && are_sound slice.properties

-- no rule is broken, neither on a field nor on the slices as a whole
abbrev pub is_checked : NewTask → Bool
is_checked task =
    is_none (name_rule task.name)
    && is_none (priority_rule (pos task.priority))
    && is_none (tolerance_rule (pos task.bot_ping_tolerance_secs))
    && is_none (uuid_rule task.request_uuid)
    && is_none (count_rule 8 (length task.task_slices))
    && list_all is_sound_slice task.task_slices
    && is_none (slices_rule task.task_slices)

-- the pool of the first slice
abbrev pub pool_of_task : NewTask → Text
pool_of_task task = pool_of_slices task.task_slices
