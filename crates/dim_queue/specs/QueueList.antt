-- A list of queues, one for each set.
use Rattle.std.specs.Prelude.{◌≡◌, ◌≢◌, ℕ, true, false, ◌<◌, length, if◌then◌else◌, Some, List, [], Option, None, MatchOption, slice_get}
use Rattle.std.specs.List.{Contains}
use Rattle.dim_queue.specs.declared.queue_set.QueueSet.{QueueSet}
use Rattle.dim_queue.specs.Taking.{Taker, may_take}
use Rattle.dim_queue.specs.declared.waiting.Waiting.{Waiting}
use Rattle.dim_queue.specs.declared.queue.Queue.{Queue}
use Rattle.dim_queue.specs.Order.{goes_first, IsInOrder}
use Rattle.dim_queue.specs.Plain.{QueueState, queue_at}

-- what contracts see of a queue
abbrev pub state_of : Queue → QueueState
state_of queue = record { set = queue.set; tasks = queue.tasks.items }

-- how many tasks more the queue has memory for
abbrev pub room_of : Queue → ℕ
room_of queue = queue.tasks.room

-- of the tasks that meet a condition, the one that goes first
abbrev pub IsFirstOf : (Waiting → Type 0) → Option Waiting → Type 0
IsFirstOf P best = MatchOption best ((w : Waiting) → P w → ⊥) (λ b. P b × ((w : Waiting) → P w → goes_first w b ≡ false))

-- the bot may take the task from a queue of this set and these tasks
abbrev pub MayTake : Taker → QueueSet → List Waiting → Waiting → Type 0
MayTake bot set tasks w = (may_take bot set ≡ true) × Contains tasks w

-- the first task that the bot may take from a queue
abbrev pub IsCandidate : Taker → QueueSet → List Waiting → Option Waiting → Type 0
IsCandidate bot set tasks best = IsFirstOf (MayTake bot set tasks) best

-- the bot may take the task from one of the first `count` queues
pub record MayTakeFrom (bot : Taker) (queues : List QueueState) (count : ℕ) (w : Waiting) : Type 0 where
  pub place : ℕ
  pub low : place < count
  pub takes : MayTake bot (queue_at queues place).set (queue_at queues place).tasks w

-- the first task of a queue, where the bot may take it
abbrev pub first_match : Taker → QueueState → Option Waiting
first_match bot queue = if may_take bot queue.set then slice_get queue.tasks 0 else None

-- of two tasks the one that goes first, where both are there
abbrev pub earlier_of : Option Waiting → Option Waiting → Option Waiting
earlier_of None other = other
earlier_of (Some a) None = Some a
earlier_of (Some a) (Some b) = if goes_first b a then Some b else Some a

-- the queue at the place has the set
pub record HasSet (set : QueueSet) (queues : List QueueState) (place : ℕ) : Type 0 where
  pub low : place < length queues
  pub alike : (queue_at queues place).set ≡ set

-- none of the first `count` queues has the set
abbrev pub LackSet : QueueSet → List QueueState → ℕ → Type 0
LackSet set queues count = (k : ℕ) → k < count → (queue_at queues k).set ≢ set

-- the queue at the place has no tasks
pub record IsEmptyAt (queues : List QueueState) (place : ℕ) : Type 0 where
  pub low : place < length queues
  pub empty : (queue_at queues place).tasks ≡ []

-- only the tasks of the queue at the place change
pub record SameOthers (place : ℕ) (old new : List QueueState) : Type 0 where
  pub other : (k : ℕ) → k ≢ place → queue_at new k ≡ queue_at old k
  pub set : (queue_at new place).set ≡ (queue_at old place).set

-- the tasks of each queue are in order
abbrev pub AreInOrder : List QueueState → Type 0
AreInOrder queues = (k : ℕ) → IsInOrder (queue_at queues k).tasks

-- each place has the same tasks, with the same set where it has any
pub record SameTasks (old new : List QueueState) : Type 0 where
  pub tasks : (k : ℕ) → (queue_at new k).tasks ≡ (queue_at old k).tasks
  pub set : (k : ℕ) (w : Waiting) → Contains (queue_at old k).tasks w → (queue_at new k).set ≡ (queue_at old k).set
