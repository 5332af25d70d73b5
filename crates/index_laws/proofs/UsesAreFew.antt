-- Each use weighs as much as a digest, in the entry that brings it and in the row that has it.
use Rattle.std.proofs.Common.{ℕ, ◌+◌, ◌*◌, ◌≤◌, ◌==◌, cond, List, [], ◌∷◌, inl, inr, arith, Option, Some, None}
use Rattle.std.specs.List.{sum_by}
use Rattle.std.specs.Option.{option_map_or}
use Rattle.std.proofs.lemmas.Bool.{cond_both, cases_Bool}
use Rattle.std.proofs.lemmas.List.Sums.{sum_by-cons}
use Rattle.dimensions.specs.Alike.{same}
use Rattle.task_props.specs.declared.file.File.{File}
use Rattle.index_laws.specs.Types.{Slice, Attempt, Chunk, Retried, TaskRow, PoolState, Entry, EntryKind}
use Rattle.swarm_model.specs.declared.entry.EntryKind.TheVariants as kind
use Rattle.swarm_model.specs.Finding.{is_final}
use Rattle.swarm_model.specs.Uses.{is_file_of, is_chunk_of}
use Rattle.swarm_model.specs.Entries.{weight, weight_of, digest_weight, file_weight, slice_weight, chunk_weight}
use Rattle.swarm_model.specs.StateWeight.{attempt_weight, retried_weight, task_row_weight}
use Rattle.swarm_model.specs.Effects.{fresh_chunk, after}
use Rattle.swarm_model.specs.History.{replay, IsCaused, MayFollow}
use Rattle.swarm_model.specs.Soundness.{IsSound}
use Rattle.pool_laws.proofs.Sound.{sound_after}
use Rattle.index_laws.specs.TaskUses.{inputs_with, chunks_with, times_named, uses_of, uses_in, attempt_in, chunk_use, uses_to_come, touched_has_ended, UsesWeigh, UsesOfRowsWeigh, UsesAreFew}
use Rattle.index_laws.proofs.UsesChange.{uses_where_ended, uses_where_not_ended}

-- what is less for each element is less for all
sums_weigh : {X : Type 0} (f g : X → ℕ) → ((x : X) → digest_weight * f x ≤ g x) → (xs : List X) → digest_weight * sum_by f xs ≤ sum_by g xs
sums_weigh f g less [] = omega arith
sums_weigh f g less (x ∷ xs) =
    let left = sum_by-cons f x xs in
    let right = sum_by-cons g x xs in
    let first = less x in
    let rest = sums_weigh f g less xs in
    omega (arith, left, right, first, rest)

file_weighs : (digest : List ℕ) (file : File) → digest_weight * cond (is_file_of digest file) 1 0 ≤ file_weight file
file_weighs digest file = cond_both (is_file_of digest file) 1 0 (λ (n : ℕ). digest_weight * n ≤ file_weight file) (λ t. omega arith) (λ t. omega arith)

slice_weighs : (digest : List ℕ) (slice : Slice) → digest_weight * inputs_with digest slice ≤ slice_weight slice
slice_weighs digest slice =
    let files : digest_weight * inputs_with digest slice ≤ sum_by file_weight slice.properties.inputs =
    sums_weigh (λ (file : File). cond (is_file_of digest file) 1 0) file_weight (file_weighs digest) slice.properties.inputs in
    omega (arith, files)

chunk_weighs : (digest : List ℕ) (r : Option Attempt) (chunk : Option Chunk) → digest_weight * option_map_or (chunk_use digest) (fresh_chunk r chunk) 0 ≤ option_map_or chunk_weight chunk 0
chunk_weighs digest None None = omega arith
chunk_weighs digest (Some a) None = omega arith
chunk_weighs digest r (Some c) = by_run r
  where
    one : digest_weight * chunk_use digest c ≤ digest_weight
    one = cond_both (same c.digest digest) 1 0 (λ (n : ℕ). digest_weight * n ≤ digest_weight) (λ t. omega arith) (λ t. omega arith)

    by_run : (r : Option Attempt) → digest_weight * option_map_or (chunk_use digest) (fresh_chunk r (Some c)) 0 ≤ digest_weight
    by_run None = omega arith
    by_run (Some a) = cond_both (c.start == a.length) (Some c) None (λ (q : Option Chunk). digest_weight * option_map_or (chunk_use digest) q 0 ≤ digest_weight) (λ t. one) (λ t. omega arith)

pub uses_weigh : UsesWeigh
uses_weigh tasks e digest = by_kind e.kind
  where
    by_kind : (k : EntryKind) → digest_weight * uses_to_come tasks k digest ≤ weight_of k
    by_kind (kind.New t who request state slice from) = (let slices = sums_weigh (inputs_with digest) slice_weight (slice_weighs digest) request.task_slices in omega (arith, slices))
    by_kind (kind.Update b t try_no chunk last) = (let its = chunk_weighs digest (attempt_in tasks t) chunk in omega (arith, its))
    by_kind k = omega arith

-- ---- the rows

chunk_of_row_weighs : (digest : List ℕ) (chunk : Chunk) → digest_weight * cond (is_chunk_of digest chunk) 1 0 ≤ chunk_weight chunk
chunk_of_row_weighs digest chunk = cond_both (is_chunk_of digest chunk) 1 0 (λ (n : ℕ). digest_weight * n ≤ chunk_weight chunk) (λ t. omega arith) (λ t. omega arith)

attempt_weighs : (digest : List ℕ) (attempt : Attempt) → digest_weight * chunks_with digest attempt ≤ attempt_weight attempt
attempt_weighs digest attempt =
    let chunks : digest_weight * chunks_with digest attempt ≤ sum_by chunk_weight attempt.chunks =
    sums_weigh (λ (chunk : Chunk). cond (is_chunk_of digest chunk) 1 0) chunk_weight (chunk_of_row_weighs digest) attempt.chunks in
    omega (arith, chunks)

run_weighs : (digest : List ℕ) (r : Option Attempt) → digest_weight * option_map_or (chunks_with digest) r 0 ≤ option_map_or attempt_weight r 0
run_weighs digest None = omega arith
run_weighs digest (Some attempt) = attempt_weighs digest attempt

lost_run_weighs : (digest : List ℕ) (r : Option Retried) → digest_weight * option_map_or (λ (lost : Retried). chunks_with digest lost.attempt) r 0 ≤ option_map_or retried_weight r 0
lost_run_weighs digest None = omega arith
lost_run_weighs digest (Some lost) = attempt_weighs digest lost.attempt

row_weighs : (digest : List ℕ) (task : TaskRow) → digest_weight * uses_of digest task ≤ task_row_weight task
row_weighs digest task =
    let slices = sums_weigh (inputs_with digest) slice_weight (slice_weighs digest) task.request.task_slices in
    let run = run_weighs digest task.attempt in
    let lost = lost_run_weighs digest task.retried in
    cond_both (is_final task.state) 0 (times_named digest task) (λ (n : ℕ). digest_weight * n ≤ task_row_weight task) (λ t. omega arith) (λ t. omega (arith, slices, run, lost))

pub uses_of_rows_weigh : UsesOfRowsWeigh
uses_of_rows_weigh s digest = let tasks = sums_weigh (uses_of digest) task_row_weight (row_weighs digest) s.tasks in omega (arith, tasks)

-- ---- a log

-- an entry adds no more uses than it brings
at_most_to_come : (s : PoolState) (e : Entry) → IsSound s → MayFollow s e → (digest : List ℕ) → uses_in (after s e) digest ≤ uses_in s digest + uses_to_come s.tasks e.kind digest
at_most_to_come s e o follows digest = elim (cases_Bool (touched_has_ended s e)) [
  | inl t ↦ (let lost = uses_where_ended s e o follows t digest in omega (arith, lost))
  | inr f ↦ (let gained = uses_where_not_ended s e o follows f digest in omega (arith, gained))
]

few_from : (s : PoolState) (log : List Entry) → IsSound s → IsCaused s log → (digest : List ℕ) → digest_weight * uses_in (replay s log) digest ≤ digest_weight * uses_in s digest + sum_by weight log
few_from s [] o caused digest = omega arith
few_from s (e ∷ log) o caused digest =
    let rest = few_from (after s e) log (sound_after s e o caused.0) caused.1 digest in
    let step = at_most_to_come s e o caused.0 digest in
    let its = uses_weigh s.tasks e digest in
    let all = sum_by-cons weight e log in
    omega (arith, rest, step, its, all)

pub uses_are_few : UsesAreFew
uses_are_few base log o caused digest = let all = few_from base log o caused digest in let rows = uses_of_rows_weigh base digest in omega (arith, all, rows)
