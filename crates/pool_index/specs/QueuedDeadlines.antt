-- Deadlines in their order, of which the first is at hand.
use Rattle.std.specs.Prelude.{◌≡◌, ℕ, false, List, Option, MatchOption}
use Rattle.std.specs.List.{Contains}
use Rattle.swarm_model.specs.declared.deadline.Deadline.{Deadline}
use Rattle.swarm_model.specs.Deadlines.{is_earlier}
-- the deadlines with one more, and without one
pub use Rattle.block_list.specs.Rising.{Adds, Removes}

-- the deadlines, and for how many more there is memory
pub record DeadlineQueueState : Type 0 where
  pub deadlines : List Deadline
  pub room : ℕ

-- one of the deadlines, and none of them is earlier
pub record IsEarliest (deadlines : List Deadline) (one : Deadline) : Type 0 where
  pub among : Contains deadlines one
  pub least : (d : Deadline) → Contains deadlines d → is_earlier d one ≡ false

-- the earliest of the deadlines, or none where there is none
abbrev pub IsEarliestOf : List Deadline → Option Deadline → Type 0
IsEarliestOf deadlines first = MatchOption first ((d : Deadline) → Contains deadlines d → ⊥) (IsEarliest deadlines)
