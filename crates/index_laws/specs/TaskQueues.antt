-- The queues of the pending tasks.
use Rattle.std.specs.Prelude.{◌≡◌, ◌↔◌, ◌⊎◌, ℕ, List, Option, Some, None, if◌then◌else◌}
use Rattle.std.specs.Option.{option_map, option_and_then}
use Rattle.index_laws.specs.Types.{BotDims, QueueSet, Slice, Pending, TaskRow, PoolState, Entry, Waiting}
use Rattle.swarm_model.specs.Finding.{has_state, task_of}
use Rattle.swarm_model.specs.Slices.{current_slice, kept_from, first}
use Rattle.swarm_model.specs.Effects.{after}
use Rattle.swarm_model.specs.History.{MayFollow}
use Rattle.swarm_model.specs.Soundness.{IsSound}
use Rattle.dim_queue.specs.Taking.{taker, set_with}
use Rattle.dim_queue.specs.Plain.{QueueState, Waits, IsNextOf}
use Rattle.index_laws.specs.Touched.{touched_task}
use Rattle.index_laws.specs.Keys.{HasKey}

-- the set of a slice, for a task that is kept from a bot or from none
abbrev pub set_of : Option ℕ → Slice → QueueSet
set_of but slice = set_with slice.properties.dimensions but

-- where a task waits with a slice: its priority, its number, and the set of the queue
abbrev pub place_in : TaskRow → Slice → Waiting × QueueSet
place_in task slice = (record { priority = task.request.priority; number = task.no }, set_of (kept_from task) slice)

-- where a pending task waits
abbrev pub waiting_of : TaskRow → Option (Waiting × QueueSet)
waiting_of task = if has_state Pending task then option_map (place_in task) (current_slice task) else None

-- those that wait in the queues are the pending tasks, each with the dimensions of its current slice and the bot that it is kept from
pub record AreQueued (queues : List QueueState) (tasks : List TaskRow) : Type 0 where
  pub each : (w : Waiting) (set : QueueSet) → Waits queues w set ↔ HasKey waiting_of tasks (w, set)

-- the touched task leaves its queue, and enters one where it has a place
pub record IsRequeued (touched : Option ℕ) (place : Option (Waiting × QueueSet)) (old new : List QueueState) : Type 0 where
  pub each : (w : Waiting) (set : QueueSet) → Waits new w set ↔ ((Waits old w set × (touched ≡ Some w.number → ⊥)) ⊎ (place ≡ Some (w, set)))

-- where the touched task waits in a pool
abbrev pub touched_place : PoolState → Option ℕ → Option (Waiting × QueueSet)
touched_place s touched = option_and_then waiting_of (option_and_then (task_of s) touched)

-- after an entry only the touched task has to leave and to enter
abbrev pub QueuesFollow : Type 0
QueuesFollow =
    (s : PoolState) (e : Entry) → IsSound s → MayFollow s e → (old new : List QueueState) → AreQueued old s.tasks →
    IsRequeued (touched_task s e.kind) (touched_place (after s e) (touched_task s e.kind)) old new → AreQueued new (after s e).tasks

-- the waiting task that comes next for a bot is the one that the bot gets
abbrev pub FirstIsNext : Type 0
FirstIsNext =
    (s : PoolState) → IsSound s → (queues : List QueueState) → AreQueued queues s.tasks → (number : ℕ) (bot : BotDims) (next : Option Waiting) → IsNextOf queues (taker number bot) next →
    option_and_then (λ (w : Waiting). task_of s w.number) next ≡ first s number bot
