-- What contracts see of the queues.
use Rattle.std.specs.Prelude.{◌≡◌, ◌≢◌, ◌↔◌, ℕ, ◌+◌, ◌<◌, ◌≤◌, length, true, false, List, [], ◌⊎◌, Option, None, MatchOption, slice_index_or}
use Rattle.std.specs.List.{Contains}
use Rattle.dim_queue.specs.declared.queue_set.QueueSet.{QueueSet}
use Rattle.dim_queue.specs.Taking.{Taker, set_with, may_take}
use Rattle.dim_queue.specs.declared.waiting.Waiting.{Waiting}
use Rattle.dim_queue.specs.Order.{goes_first}

-- what the tasks of a queue have in common, and these tasks, in the order in which they are given out
pub record QueueState : Type 0 where
  pub set : QueueSet
  pub tasks : List Waiting

-- the queues, and the set with which a task may enter next
pub record QueuesState : Type 0 where
  pub queues : List QueueState
  pub ready : Option QueueSet

-- what stands past the end
abbrev pub no_queue : QueueState
no_queue = record { set = set_with [] None; tasks = [] }

-- the queue at a place
abbrev pub queue_at : List QueueState → ℕ → QueueState
queue_at queues place = slice_index_or queues place no_queue

-- the task waits in the queue of the set
pub record Waits (queues : List QueueState) (w : Waiting) (set : QueueSet) : Type 0 where
  pub place : ℕ
  pub alike : (queue_at queues place).set ≡ set
  pub stands : Contains (queue_at queues place).tasks w

-- the same tasks wait, each with the same set
abbrev pub SameWaits : List QueueState → List QueueState → Type 0
SameWaits old new = (w : Waiting) (set : QueueSet) → Waits new w set ↔ Waits old w set

-- one task more waits, with its set
abbrev pub Enters : Waiting → QueueSet → List QueueState → List QueueState → Type 0
Enters one its old new = (w : Waiting) (set : QueueSet) → Waits new w set ↔ (((w ≡ one) × (set ≡ its)) ⊎ Waits old w set)

-- all wait but the task of the number
abbrev pub Leaves : ℕ → List QueueState → List QueueState → Type 0
Leaves number old new = (w : Waiting) (set : QueueSet) → Waits new w set ↔ (Waits old w set × (w.number ≢ number))

-- no task of the number waits
abbrev pub IsAbsent : ℕ → List QueueState → Type 0
IsAbsent number queues = (w : Waiting) (set : QueueSet) → Waits queues w set → w.number ≢ number

-- no two queues have the same set
abbrev pub AreApart : List QueueState → Type 0
AreApart queues = (i j : ℕ) → i < length queues → j < length queues → (queue_at queues i).set ≡ (queue_at queues j).set → i ≡ j

-- each of the first `count` queues has tasks
abbrev pub HaveTasks : List QueueState → ℕ → Type 0
HaveTasks queues count = (k : ℕ) → k < count → 0 < length (queue_at queues k).tasks

-- at most one queue is added, and only where each queue has tasks
pub record ReusesEmpty (old new : List QueueState) : Type 0 where
  pub most : length new ≤ length old + 1
  pub reuse : (k : ℕ) → k < length old → (queue_at old k).tasks ≡ [] → length new ≡ length old

-- a waiting task that the bot may take, and no waiting task that it may take goes before that one
pub record IsNext (queues : List QueueState) (bot : Taker) (w : Waiting) : Type 0 where
  pub set : QueueSet
  pub waits : Waits queues w set
  pub fits : may_take bot set ≡ true
  pub first : (other : Waiting) (others : QueueSet) → Waits queues other others → may_take bot others ≡ true → goes_first other w ≡ false

-- that task, or none where the bot may take no waiting task
abbrev pub IsNextOf : List QueueState → Taker → Option Waiting → Type 0
IsNextOf queues bot next = MatchOption next ((w : Waiting) (set : QueueSet) → Waits queues w set → may_take bot set ≡ false) (IsNext queues bot)
