-- The dotted path of a field, with list places as numbers.
use Rattle.std.specs.Prelude.{ℕ, List, ◌++◌, codes}
use Rattle.std.specs.Fmt.{decimal}
use Rattle.task_props.specs.declared.task_field.TaskField.{TaskField}
use Rattle.task_props.specs.declared.task_field.TaskField.TheVariants.{Name, Priority, BotPingToleranceSecs, RequestUuid, TaskSlices, InSlice}
use Rattle.task_props.specs.declared.task_field.SliceField.{SliceField}
use Rattle.task_props.specs.declared.task_field.SliceField.TheVariants.{ExpirationSecs, Command, CommandText, Env, EnvKey, EnvValue, Dimensions, Dimension, Caches, CacheName, CachePath, Inputs, InputPath, InputDigest, InputSize, Outputs, Output, ExecutionTimeoutSecs, IoTimeoutSecs, GracePeriodSecs}

-- within its slice
abbrev pub slice_path : SliceField → List ℕ
slice_path ExpirationSecs = codes "expiration_secs"
slice_path Command = codes "properties.command"
slice_path (CommandText place) = codes "properties.command." ++ decimal place
slice_path Env = codes "properties.env"
slice_path (EnvKey place) = codes "properties.env." ++ (decimal place ++ codes ".key")
slice_path (EnvValue place) = codes "properties.env." ++ (decimal place ++ codes ".value")
slice_path Dimensions = codes "properties.dimensions"
slice_path (Dimension place) = codes "properties.dimensions." ++ decimal place
slice_path Caches = codes "properties.caches"
slice_path (CacheName place) = codes "properties.caches." ++ (decimal place ++ codes ".name")
slice_path (CachePath place) = codes "properties.caches." ++ (decimal place ++ codes ".path")
slice_path Inputs = codes "properties.inputs"
slice_path (InputPath place) = codes "properties.inputs." ++ (decimal place ++ codes ".path")
slice_path (InputDigest place) = codes "properties.inputs." ++ (decimal place ++ codes ".digest")
slice_path (InputSize place) = codes "properties.inputs." ++ (decimal place ++ codes ".size")
slice_path Outputs = codes "properties.outputs"
slice_path (Output place) = codes "properties.outputs." ++ decimal place
slice_path ExecutionTimeoutSecs = codes "properties.execution_timeout_secs"
slice_path IoTimeoutSecs = codes "properties.io_timeout_secs"
slice_path GracePeriodSecs = codes "properties.grace_period_secs"

abbrev pub task_path : TaskField → List ℕ
task_path Name = codes "name"
task_path Priority = codes "priority"
task_path BotPingToleranceSecs = codes "bot_ping_tolerance_secs"
task_path RequestUuid = codes "request_uuid"
task_path TaskSlices = codes "task_slices"
task_path (InSlice slice field) = codes "task_slices." ++ (decimal slice ++ (codes "." ++ slice_path field))
