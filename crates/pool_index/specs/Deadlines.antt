-- The deadlines at some places, and the earliest of them.
use Rattle.std.specs.Prelude.{◌≡◌, ℕ, false, List, Option, Some, None, MatchOption, slice_index_or}
use Rattle.std.specs.List.{fold}
use Rattle.std.specs.Option.{option_to_list}
use Rattle.swarm_model.specs.declared.deadline.Deadline.{Deadline}
use Rattle.swarm_model.specs.Deadlines.{is_earlier, sooner}

-- the deadline at a place; past the end there is none
abbrev pub deadline_at : List (Option Deadline) → ℕ → Option Deadline
deadline_at ends place = slice_index_or ends place None

-- the earlier of two, where there is one: of equal ones the first
abbrev pub earlier_of : Option Deadline → Option Deadline → Option Deadline
earlier_of one other = fold sooner one (option_to_list other)

-- some place has the deadline, and no place an earlier one
pub record IsFirst (ends : List (Option Deadline)) (d : Deadline) : Type 0 where
  pub place : ℕ
  pub there : deadline_at ends place ≡ Some d
  pub least : (k : ℕ) (x : Deadline) → deadline_at ends k ≡ Some x → is_earlier x d ≡ false

-- the earliest deadline, or none where no place has one
abbrev pub IsFirstOf : List (Option Deadline) → Option Deadline → Type 0
IsFirstOf ends first = MatchOption first ((k : ℕ) → deadline_at ends k ≡ None) (IsFirst ends)

-- the same deadline at each place; the lengths may differ
abbrev pub SameDeadlines : List (Option Deadline) → List (Option Deadline) → Type 0
SameDeadlines a b = (k : ℕ) → deadline_at a k ≡ deadline_at b k
