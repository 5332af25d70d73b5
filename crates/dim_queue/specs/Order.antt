-- Waiting tasks in the order in which they are given out.
use Rattle.std.specs.Prelude.{Bool, true, ◌==◌, ◌&&◌, ◌||◌, nat_lt, List, Option, None, Some}
use Rattle.block_list.specs.Rising.{IsRising}
use Rattle.dim_queue.specs.declared.waiting.Waiting.{Waiting}

-- the lower priority goes first, and at equal priorities the lower number
abbrev pub goes_first : Waiting → Waiting → Bool
goes_first a b = nat_lt a.priority b.priority || (a.priority == b.priority && nat_lt a.number b.number)

-- there is no other task, or this one goes before it
abbrev pub precedes : Waiting → Option Waiting → Bool
precedes one None = true
precedes one (Some other) = goes_first one other

-- each task goes before all that stand behind it in the list
abbrev pub IsInOrder : List Waiting → Type 0
IsInOrder = IsRising goes_first
