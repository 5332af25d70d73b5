-- When two reports of a run are the same: in each field.
use Rattle.std.specs.Prelude.{Bool, ◌==◌}
use Rattle.std.specs.Bool.{beq}
use Rattle.std.specs.Ordering.{int_eq}
use Rattle.std.specs.Cmp.Lexicographic.{pointwise}
use Rattle.dimensions.specs.Alike.{same}
use Rattle.task_props.specs.Alike.{same_file, ◌also◌}
use Rattle.swarm_model.specs.Types.{Chunk, Last}

abbrev pub same_chunk : Chunk → Chunk → Bool
same_chunk a b = a.start == b.start also a.size == b.size also same a.digest b.digest

abbrev pub same_last : Last → Last → Bool
same_last a b =
    int_eq a.exit_code b.exit_code
    also a.duration_ms == b.duration_ms
    also beq a.hard_timeout b.hard_timeout
    also beq a.io_timeout b.io_timeout
    also a.dropped == b.dropped
    also pointwise same_file a.files b.files
