-- What each index is after an entry.
use Rattle.std.specs.Option.{option_map}
use Rattle.std.proofs.Common.{◌≡◌, ℕ, ◌+◌, ◌<◌, List, length, map, Option, Some, None, refl, sym, ap, ◌∙◌, subst, arith}
use Rattle.swarm_machine.specs.Types.{BlobRow, Chunk, TaskState, TaskRow, Deadline, PoolState, Entry, EntryKind}
use Rattle.swarm_model.specs.declared.entry.EntryKind.TheVariants as kind
use Rattle.swarm_model.specs.Deadlines.{blob_end}
use Rattle.swarm_model.specs.Effects.{after}
use Rattle.swarm_model.specs.History.{MayFollow, count_in, states, tally}
use Rattle.swarm_model.specs.Soundness.{IsSound}
use Rattle.index_laws.specs.BlobDeadlines.{AreBlobDeadlines, AreMoved, touched_blob, blob_end_before, blob_end_after}
use Rattle.index_laws.specs.RowDeadlines.{AreTaskDeadlines, AreBotDeadlines, put_deadline, task_deadline_of, bot_deadline_of}
use Rattle.index_laws.specs.StateCounts.{touched_row, count_of_row}
use Rattle.index_laws.specs.Touched.{touched_task, touched_bot}
use Rattle.index_laws.proofs.BlobDeadlinesFollow.{blob_deadlines_follow}
use Rattle.index_laws.proofs.AddedRows.{rows_grow_by_one}
use Rattle.index_laws.proofs.CountsFollow.{counts_follow}
use Rattle.index_laws.proofs.DeadlinesFollow.{task_deadlines_follow, bot_deadlines_follow}
use Rattle.pool_changes.specs.Blobs.{fresh_in}
use Rattle.swarm_machine.specs.Counting.{is_in, one_if, shifted, AreShifted}
use Rattle.swarm_machine.specs.Indexes.{state_of_row}
use Rattle.swarm_machine.specs.TouchedBlobs.{touched_with, blob_end_with}

-- ---- the blobs

-- the blob that an entry may change, whose chunk is told from the rows before it
touched_is : (s : PoolState) (k : EntryKind) (rows : List BlobRow) → touched_with (fresh_in s k) k rows ≡ touched_blob s k rows
touched_is s (kind.Update b t try_no chunk last) rows = refl
touched_is s k rows = refl

-- its deadline before the entry
pub end_before : (s : PoolState) (e : Entry) → blob_end_with (fresh_in s e.kind) e.kind s.blobs ≡ blob_end_before s e
end_before s e = ap (option_map blob_end) (touched_is s e.kind s.blobs)

-- the deadlines of the blobs, of which one is moved
pub blob_ends_after : (s : PoolState) (e : Entry) → IsSound s → MayFollow s e → (old new : List Deadline) (gone come : Option Deadline) (fresh : Option Chunk) (rows : List BlobRow) →
    AreBlobDeadlines old s → gone ≡ blob_end_before s e → fresh ≡ fresh_in s e.kind → rows ≡ (after s e).blobs → come ≡ blob_end_with fresh e.kind rows → AreMoved gone come old new →
    AreBlobDeadlines new (after s e)
blob_ends_after s e sound follows old new gone come fresh rows are before own now is moved =
    let later : come ≡ blob_end_after s e =
    is
    ∙ ap (λ (o : Option Chunk). blob_end_with o e.kind rows) own
    ∙ ap (blob_end_with (fresh_in s e.kind) e.kind) now
    ∙ ap (option_map blob_end) (touched_is s e.kind (after s e).blobs) in
    blob_deadlines_follow s e sound follows old new are
    (subst (λ (o : Option Deadline). AreMoved o (blob_end_after s e) old new) before (subst (λ (o : Option Deadline). AreMoved gone o old new) later moved))

-- ---- the counts

pub counted : (state : TaskState) (row : Option TaskRow) → one_if (is_in (state_of_row row) state) ≡ count_of_row state row
counted state None = refl
counted state (Some row) = refl

module _ (s : PoolState) (e : Entry) (sound : IsSound s) (follows : MayFollow s e) where
  -- the tally is shifted by the state of the touched task
  pub counts_after : (old new : List ℕ) (from to : Option TaskState) → old ≡ tally s → from ≡ state_of_row (touched_row s (touched_task s e.kind)) →
      to ≡ state_of_row (touched_row (after s e) (touched_task s e.kind)) → AreShifted from to old new → new ≡ tally (after s e)
  counts_after old new from to before left came shift = shift (count_in s) before ∙ (λ i. map (λ state. each state i) states)
    where
      each : (state : TaskState) → shifted from to state (count_in s state) ≡ count_in (after s e) state
      each state =
          (let gone = ap (λ (o : Option TaskState). one_if (is_in o state)) left ∙ counted state (touched_row s (touched_task s e.kind)) in
          let here = ap (λ (o : Option TaskState). one_if (is_in o state)) came ∙ counted state (touched_row (after s e) (touched_task s e.kind)) in
          let law = counts_follow s e sound follows state in
          omega (arith, gone, here, law))

  -- ---- the deadlines

  pub task_ends_after : (old new : List (Option Deadline)) (touched : Option ℕ) → AreTaskDeadlines old s → length s.tasks + 1 < length old → touched ≡ touched_task s e.kind →
      new ≡ put_deadline (task_deadline_of (after s e)) touched old → AreTaskDeadlines new (after s e)
  task_ends_after old new touched are room is put =
      let grown = (rows_grow_by_one s e).0 in
      subst (λ (ends : List (Option Deadline)). AreTaskDeadlines ends (after s e)) (sym (put ∙ ap (λ (t : Option ℕ). put_deadline (task_deadline_of (after s e)) t old) is))
      (task_deadlines_follow s e sound follows old are (omega (arith, grown, room)))

  pub bot_ends_after : (old new : List (Option Deadline)) (touched : Option ℕ) → AreBotDeadlines old s → length s.bots + 1 < length old → touched ≡ touched_bot s e.kind →
      new ≡ put_deadline (bot_deadline_of (after s e)) touched old → AreBotDeadlines new (after s e)
  bot_ends_after old new touched are room is put =
      let grown = (rows_grow_by_one s e).1 in
      subst (λ (ends : List (Option Deadline)). AreBotDeadlines ends (after s e)) (sym (put ∙ ap (λ (t : Option ℕ). put_deadline (bot_deadline_of (after s e)) t old) is))
      (bot_deadlines_follow s e sound follows old are (omega (arith, grown, room)))
