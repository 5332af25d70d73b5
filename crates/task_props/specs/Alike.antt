-- When two properties of slices, and two requests for a task, are the same: in each field.
use Rattle.std.specs.Prelude.{Bool, ◌&&◌, ◌==◌}
use Rattle.std.specs.Bool.{beq}
use Rattle.std.specs.Cmp.Lexicographic.{pointwise}
use Rattle.dimensions.specs.Alike.{same, same_pair}
use Rattle.task_props.specs.Types.{Cache, File, Properties, NewTask, Slice}

infixr 3 ◌also◌
-- both, in a row of many
abbrev pub ◌also◌ : Bool → Bool → Bool
a also b = a && b

abbrev pub same_cache : Cache → Cache → Bool
same_cache a b = same a.name b.name also same a.path b.path

abbrev pub same_file : File → File → Bool
same_file a b = same a.path b.path also same a.digest b.digest also a.size == b.size

abbrev pub same_properties : Properties → Properties → Bool
same_properties a b =
    pointwise same a.command b.command
    also pointwise same_pair a.env b.env
    also pointwise same_pair a.dimensions b.dimensions
    also pointwise same_cache a.caches b.caches
    also pointwise same_file a.inputs b.inputs
    also pointwise same a.outputs b.outputs
    also a.execution_timeout_secs == b.execution_timeout_secs
    also a.io_timeout_secs == b.io_timeout_secs
    also a.grace_period_secs == b.grace_period_secs
    also beq a.idempotent b.idempotent

abbrev pub same_slice : Slice → Slice → Bool
same_slice a b =
    a.expiration_secs == b.expiration_secs
    also beq a.wait_for_capacity b.wait_for_capacity
    also same_properties a.properties b.properties

abbrev pub same_task : NewTask → NewTask → Bool
same_task a b =
    same a.name b.name
    also a.priority == b.priority
    also a.bot_ping_tolerance_secs == b.bot_ping_tolerance_secs
    also same a.request_uuid b.request_uuid
    also pointwise same_slice a.task_slices b.task_slices
