-- How often the tasks of a pool use a digest.
use Rattle.std.specs.Prelude.{◌≡◌, ℕ, ◌+◌, ◌*◌, ◌≤◌, Bool, true, false, nat_lt, List, Option, if◌then◌else◌}
use Rattle.std.specs.List.{count_by, find, sum_by}
use Rattle.std.specs.Option.{option_map_or, option_and_then}
use Rattle.dimensions.specs.Alike.{same}
use Rattle.index_laws.specs.Types.{Slice, Attempt, Chunk, TaskRow, PoolState, Entry, EntryKind}
use Rattle.swarm_model.specs.declared.entry.EntryKind.TheVariants as kind
use Rattle.swarm_model.specs.Finding.{is_final, is_task}
use Rattle.swarm_model.specs.Uses.{is_file_of, is_chunk_of, is_used}
use Rattle.swarm_model.specs.Entries.{weight, digest_weight}
use Rattle.swarm_model.specs.StateWeight.{state_weight}
use Rattle.swarm_model.specs.Effects.{fresh_chunk, after}
use Rattle.swarm_model.specs.History.{replay, IsCaused, MayFollow}
use Rattle.swarm_model.specs.Soundness.{IsSound}
use Rattle.index_laws.specs.Touched.{touched_task}
use Rattle.index_laws.specs.StateCounts.{touched_row}
use Rattle.index_laws.specs.RowSums.{weight_of_row}

-- how many inputs of a slice have the digest
abbrev pub inputs_with : List ℕ → Slice → ℕ
inputs_with digest slice = count_by (is_file_of digest) slice.properties.inputs

-- how many inputs of slices
abbrev pub uses_of_slices : List ℕ → List Slice → ℕ
uses_of_slices digest slices = sum_by (inputs_with digest) slices

-- how many chunks of the output of a run
abbrev pub chunks_with : List ℕ → Attempt → ℕ
chunks_with digest attempt = count_by (is_chunk_of digest) attempt.chunks

-- how often a task names the digest among its inputs and in the output of its runs, whether it has ended or not
abbrev pub times_named : List ℕ → TaskRow → ℕ
times_named digest task =
    uses_of_slices digest task.request.task_slices
    + (option_map_or (chunks_with digest) task.attempt 0 + option_map_or (λ lost. chunks_with digest lost.attempt) task.retried 0)

-- how often a task uses it: a task that has ended uses nothing
abbrev pub uses_of : List ℕ → TaskRow → ℕ
uses_of digest task = if is_final task.state then 0 else times_named digest task

-- how often all tasks of a pool use it
abbrev pub uses_in : PoolState → List ℕ → ℕ
uses_in s digest = sum_by (uses_of digest) s.tasks

-- a blob is used where its digest has a use
abbrev pub UseIsCounted : Type 0
UseIsCounted = (s : PoolState) (digest : List ℕ) → is_used s digest ≡ nat_lt 0 (uses_in s digest)

-- ---- an entry

-- the attempt of the task of a number
abbrev pub attempt_in : List TaskRow → ℕ → Option Attempt
attempt_in tasks number = option_and_then (λ (task : TaskRow). task.attempt) (find (is_task number) tasks)

-- one use, where the chunk has the digest
abbrev pub chunk_use : List ℕ → Chunk → ℕ
chunk_use digest chunk = if same chunk.digest digest then 1 else 0

-- the uses that an entry brings, by the rows before it: the inputs of a new task, and a chunk that goes on from the output
abbrev pub uses_to_come : List TaskRow → EntryKind → List ℕ → ℕ
uses_to_come tasks (kind.New t who request state slice from) digest = uses_of_slices digest request.task_slices
uses_to_come tasks (kind.Update b t try_no chunk last) digest = option_map_or (chunk_use digest) (fresh_chunk (attempt_in tasks t) chunk) 0
uses_to_come tasks entry digest = 0

-- the touched row before an entry, and after it
abbrev pub row_before : PoolState → Entry → Option TaskRow
row_before s e = touched_row s (touched_task s e.kind)

abbrev pub row_after : PoolState → Entry → Option TaskRow
row_after s e = touched_row (after s e) (touched_task s e.kind)

-- whether the touched task has ended after an entry
abbrev pub touched_has_ended : PoolState → Entry → Bool
touched_has_ended s e = option_map_or (λ (task : TaskRow). is_final task.state) (row_after s e) false

-- the touched row loses its uses where it has ended, and else has those of before and those that the entry brings
abbrev pub UsesOfTouched : Type 0
UsesOfTouched =
    (s : PoolState) (e : Entry) → IsSound s → MayFollow s e → (digest : List ℕ) →
    weight_of_row (uses_of digest) (row_after s e)
    ≡ (if touched_has_ended s e then 0 else weight_of_row (uses_of digest) (row_before s e) + uses_to_come s.tasks e.kind digest)

-- it names the digest for each use of before and each that the entry brings, also where it has ended
abbrev pub NamesOfTouched : Type 0
NamesOfTouched =
    (s : PoolState) (e : Entry) → IsSound s → MayFollow s e → (digest : List ℕ) →
    weight_of_row (times_named digest) (row_after s e) ≡ weight_of_row (uses_of digest) (row_before s e) + uses_to_come s.tasks e.kind digest

-- so where the touched row has ended, the pool loses the uses that the row had
abbrev pub UsesWhereEnded : Type 0
UsesWhereEnded =
    (s : PoolState) (e : Entry) → IsSound s → MayFollow s e → touched_has_ended s e ≡ true → (digest : List ℕ) →
    uses_in (after s e) digest + weight_of_row (uses_of digest) (row_before s e) ≡ uses_in s digest

-- and else it gains those that the entry brings
abbrev pub UsesWhereNotEnded : Type 0
UsesWhereNotEnded =
    (s : PoolState) (e : Entry) → IsSound s → MayFollow s e → touched_has_ended s e ≡ false → (digest : List ℕ) →
    uses_in (after s e) digest ≡ uses_in s digest + uses_to_come s.tasks e.kind digest

-- ---- how many uses there may be

-- each use weighs as much as a digest in the entry that brings it
abbrev pub UsesWeigh : Type 0
UsesWeigh = (tasks : List TaskRow) (e : Entry) (digest : List ℕ) → digest_weight * uses_to_come tasks e.kind digest ≤ weight e

-- each use of a row weighs as much as a digest in the row
abbrev pub UsesOfRowsWeigh : Type 0
UsesOfRowsWeigh = (s : PoolState) (digest : List ℕ) → digest_weight * uses_in s digest ≤ state_weight s

-- so a log that weighs little, with the rows from which it begins, leads to few uses
abbrev pub UsesAreFew : Type 0
UsesAreFew =
    (base : PoolState) (log : List Entry) → IsSound base → IsCaused base log → (digest : List ℕ) →
    digest_weight * uses_in (replay base log) digest ≤ state_weight base + sum_by weight log
