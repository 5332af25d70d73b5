-- What the counts of uses are after an entry, and that they are small.
use Rattle.std.proofs.Common.{◌≡◌, ℕ, ◌+◌, ◌<◌, ◌≤◌, ◌^◌, ◌==◌, Bool, true, false, List, Option, Some, None, refl, ap, ◌∙◌, arith, cond}
use Rattle.std.specs.Prelude.{IfSome}
use Rattle.std.specs.List.{sum_by}
use Rattle.std.specs.Option.{option_map_or}
use Rattle.swarm_model.specs.declared.attempt.Attempt.{Attempt}
use Rattle.swarm_machine.specs.Types.{Chunk, TaskRow, PoolState, Entry, EntryKind}
use Rattle.swarm_model.specs.declared.entry.EntryKind.TheVariants as kind
use Rattle.swarm_model.specs.Finding.{is_final}
use Rattle.swarm_model.specs.Entries.{weight}
use Rattle.swarm_model.specs.StateWeight.{state_weight}
use Rattle.swarm_model.specs.Effects.{fresh_chunk, attempt_of, after}
use Rattle.swarm_model.specs.History.{replay, IsCaused, MayFollow}
use Rattle.swarm_model.specs.Soundness.{IsSound}
use Rattle.pool_changes.specs.Blobs.{fresh_in}
use Rattle.index_laws.specs.RowSums.{weight_of_row}
use Rattle.index_laws.specs.TaskUses.{times_named, uses_in, uses_to_come, row_after, touched_has_ended}
use Rattle.index_laws.proofs.UsesChange.{names_of_touched, uses_where_ended, uses_where_not_ended}
use Rattle.index_laws.proofs.UsesAreFew.{uses_weigh, uses_are_few}
use Rattle.swarm_machine.specs.Uses.{IsChunkOf, uses_brought}

-- ---- what an entry brings

-- with the chunk that goes on from the output, an entry brings the uses that are to come
pub uses_brought_is : (s : PoolState) (k : EntryKind) (digest : List ℕ) → uses_brought (fresh_in s k) k digest ≡ uses_to_come s.tasks k digest
uses_brought_is s (kind.New t who request state slice from) digest = refl
uses_brought_is s (kind.Update b t try_no chunk last) digest = refl
uses_brought_is s k digest = refl

-- that chunk is the entry's own
fresh_is : (run : Option Attempt) (chunk : Option Chunk) → IfSome (fresh_chunk run chunk) (λ c. chunk ≡ Some c)
fresh_is None None = tt
fresh_is None (Some chunk) = tt
fresh_is (Some attempt) None = tt
fresh_is (Some attempt) (Some chunk) = by_test (chunk.start == attempt.length)
  where
    by_test : (goes_on : Bool) → IfSome (cond goes_on (Some chunk) None) (λ c. Some chunk ≡ Some c)
    by_test true = refl
    by_test false = tt

pub fresh_is_chunk : (s : PoolState) (k : EntryKind) → IsChunkOf k (fresh_in s k)
fresh_is_chunk s (kind.Update b t try_no chunk last) = fresh_is (attempt_of s t) chunk
fresh_is_chunk s k = tt

-- the counts with those that an entry brings, and the room for them, by the uses that are to come
module _ (s : PoolState) (k : EntryKind) (fresh : Option Chunk) (is : fresh ≡ fresh_in s k) where
  brought_is : (digest : List ℕ) → uses_brought fresh k digest ≡ uses_to_come s.tasks k digest
  brought_is digest = ap (λ (chunk : Option Chunk). uses_brought chunk k digest) is ∙ uses_brought_is s k digest

  pub counts_with_brought : (old middle : List ℕ → ℕ) → ((digest : List ℕ) → middle digest ≡ old digest + uses_brought fresh k digest) → (digest : List ℕ) → middle digest ≡ old digest + uses_to_come s.tasks k digest
  counts_with_brought old middle gained digest = gained digest ∙ ap (λ (n : ℕ). old digest + n) (brought_is digest)

  pub room_for_brought : (old : List ℕ → ℕ) → ((digest : List ℕ) → old digest ≡ uses_in s digest) → ((digest : List ℕ) → uses_in s digest + uses_to_come s.tasks k digest < 2 ^ 32) →
      (digest : List ℕ) → old digest + uses_brought fresh k digest < 2 ^ 32
  room_for_brought old before small digest =
      let was = before digest in
      let room = small digest in
      let brought = brought_is digest in
      omega (arith, was, room, brought)

-- ---- after an entry

-- the counts are those of the pool before an entry, and then those with what it brings
module _ (s : PoolState) (e : Entry) (sound : IsSound s) (follows : MayFollow s e) (old middle : List ℕ → ℕ) (before : (digest : List ℕ) → old digest ≡ uses_in s digest) (gained : (digest : List ℕ) → middle digest ≡ old digest + uses_to_come s.tasks e.kind digest) where
  -- where the touched task has not ended, they are those of the pool after it
  pub counts_not_ended : touched_has_ended s e ≡ false → (digest : List ℕ) → middle digest ≡ uses_in (after s e) digest
  counts_not_ended goes_on digest =
      let was = before digest in
      let more = gained digest in
      let law = uses_where_not_ended s e sound follows goes_on digest in
      omega (arith, was, more, law)

  -- whether it has
  ended_is : (row : Option TaskRow) → row_after s e ≡ row → touched_has_ended s e ≡ option_map_or (λ (task : TaskRow). is_final task.state) row false
  ended_is row is = ap (λ (row : Option TaskRow). option_map_or (λ (task : TaskRow). is_final task.state) row false) is

  -- where no row is touched
  pub counts_no_row : row_after s e ≡ None → (digest : List ℕ) → middle digest ≡ uses_in (after s e) digest
  counts_no_row is = counts_not_ended (ended_is None is)

  module _ (task : TaskRow) (is : row_after s e ≡ Some task) where
    -- where the touched row has not ended
    pub counts_row_not_ended : is_final task.state ≡ false → (digest : List ℕ) → middle digest ≡ uses_in (after s e) digest
    counts_row_not_ended on = counts_not_ended (ended_is (Some task) is ∙ on)

    module _ (final : is_final task.state ≡ true) where
      -- where it has, the counts are those of the pool after the entry, and what the row names
      counts_with_row : (digest : List ℕ) → middle digest ≡ uses_in (after s e) digest + times_named digest task
      counts_with_row digest =
          let was = before digest in
          let more = gained digest in
          let law = uses_where_ended s e sound follows (ended_is (Some task) is ∙ final) digest in
          let names = names_of_touched s e sound follows digest in
          let own : weight_of_row (times_named digest) (row_after s e) ≡ times_named digest task = ap (weight_of_row (times_named digest)) is in
          omega (arith, was, more, law, names, own)

      -- so this can be taken off
      pub can_remove_uses : (digest : List ℕ) → times_named digest task ≤ middle digest
      can_remove_uses digest = let with_row = counts_with_row digest in omega (arith, with_row)

      -- and then they are those of the pool after it
      pub counts_row_ended : (new : List ℕ → ℕ) → ((digest : List ℕ) → new digest + times_named digest task ≡ middle digest) → (digest : List ℕ) → new digest ≡ uses_in (after s e) digest
      counts_row_ended new lost digest =
          let with_row = counts_with_row digest in
          let less = lost digest in
          omega (arith, with_row, less)

-- ---- how many uses there may be

-- where the log and an entry weigh little, with the rows from which the log begins, the uses with those that the
-- entry brings are few
pub uses_are_small : (base : PoolState) (log : List Entry) (s : PoolState) (e : Entry) (most : ℕ) → IsSound base → s ≡ replay base log → IsCaused base log →
    state_weight base + sum_by weight log + weight e ≤ most → most < 2 ^ 32 → (digest : List ℕ) → uses_in s digest + uses_to_come s.tasks e.kind digest < 2 ^ 32
uses_are_small base log s e most sound is caused weighs low digest =
    let few = uses_are_few base log sound caused digest in
    let same : uses_in s digest ≡ uses_in (replay base log) digest = ap (λ (x : PoolState). uses_in x digest) is in
    let its = uses_weigh s.tasks e digest in
    omega (arith, few, same, its, weighs, low)
