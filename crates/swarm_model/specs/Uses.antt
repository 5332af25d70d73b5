-- What the blobs of a pool are needed for.
use Rattle.std.specs.Prelude.{ℕ, Bool, false, ◌&&◌, ◌||◌, not, List}
use Rattle.std.specs.List.{list_any}
use Rattle.std.specs.Option.{option_map_or}
use Rattle.dimensions.specs.Alike.{same}
use Rattle.swarm_model.specs.Types.{File, Slice, Attempt, Chunk, TaskRow, PoolState}
use Rattle.swarm_model.specs.Finding.{is_final}

abbrev pub is_file_of : List ℕ → File → Bool
is_file_of digest file = same file.digest digest

-- the slice has an input of this digest
abbrev pub has_input : List ℕ → Slice → Bool
has_input digest slice = list_any (is_file_of digest) slice.properties.inputs

abbrev pub is_chunk_of : List ℕ → Chunk → Bool
is_chunk_of digest chunk = same chunk.digest digest

-- the output of the run has a chunk of this digest
abbrev pub has_chunk : List ℕ → Attempt → Bool
has_chunk digest attempt = list_any (is_chunk_of digest) attempt.chunks

-- a task that waits or runs needs the inputs of all its slices, and the output that is kept of its runs
abbrev pub needs : List ℕ → TaskRow → Bool
needs digest task =
    not (is_final task.state)
    && (list_any (has_input digest) task.request.task_slices
    || (option_map_or (has_chunk digest) task.attempt false || option_map_or (λ lost. has_chunk digest lost.attempt) task.retried false))

-- a task needs the blob of this digest
abbrev pub is_used : PoolState → List ℕ → Bool
is_used s digest = list_any (needs digest) s.tasks
