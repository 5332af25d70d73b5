-- Whether what waiting and running tasks need is held.
use Rattle.std.specs.Prelude.{◌≡◌, ℕ, Bool, true, ◌&&◌, ◌||◌, IsTrue, is_some, List}
use Rattle.std.specs.List.{list_all, list_any}
use Rattle.std.specs.Option.{option_map_or}
use Rattle.base_checks.specs.Types.{File, Slice, BlobRow, Attempt, Chunk, Retried, TaskRow}
use Rattle.blob_rows.specs.BlobRows as rows
use Rattle.blob_rows.specs.Digests.{same_digest}
use Rattle.swarm_model.specs.Finding.{is_final}
use Rattle.swarm_model.specs.Uses.{needs}

abbrev pub is_digest : List ℕ → List ℕ → Bool
is_digest digest other = same_digest other digest

-- the digest is one of those that are held
abbrev pub is_held : List (List ℕ) → List ℕ → Bool
is_held held digest = list_any (is_digest digest) held

-- the digests are those of the blobs, in whatever order
abbrev pub AreDigestsOf : List BlobRow → List (List ℕ) → Type 0
AreDigestsOf blobs held = (digest : List ℕ) → is_held held digest ≡ is_some (rows.blob_of blobs digest)

-- ---- what a task needs, kind by kind

abbrev pub file_is_held : List (List ℕ) → File → Bool
file_is_held held file = is_held held file.digest

abbrev pub inputs_are_held : List (List ℕ) → Slice → Bool
inputs_are_held held slice = list_all (file_is_held held) slice.properties.inputs

abbrev pub chunk_is_held : List (List ℕ) → Chunk → Bool
chunk_is_held held chunk = is_held held chunk.digest

abbrev pub output_is_held : List (List ℕ) → Attempt → Bool
output_is_held held attempt = list_all (chunk_is_held held) attempt.chunks

abbrev pub lost_output_is_held : List (List ℕ) → Retried → Bool
lost_output_is_held held lost = output_is_held held lost.attempt

-- all that the task needs is held; one that has ended needs nothing
abbrev pub needs_are_held : List (List ℕ) → TaskRow → Bool
needs_are_held held task =
    is_final task.state
    || (list_all (inputs_are_held held) task.request.task_slices
    && (option_map_or (output_is_held held) task.attempt true && option_map_or (lost_output_is_held held) task.retried true))

-- each digest that a task needs is that of a blob
abbrev pub AreServed : List TaskRow → List BlobRow → Type 0
AreServed tasks blobs = (digest : List ℕ) → IsTrue (list_any (needs digest) tasks) → IsTrue (is_some (rows.blob_of blobs digest))
