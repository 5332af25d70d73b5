-- What `Queues` keeps, what contracts see of it, and what always holds of it.
use Rattle.std.specs.Prelude.{◌≡◌, ℕ, ◌<◌, List, Option, Some, IfSome, map, slice_index, nat_eq}
use Rattle.std.specs.List.{Contains}
use Rattle.std.specs.Option.{option_map}
use Rattle.std.specs.HashMap.{get, spare}
use Rattle.dim_queue.specs.declared.waiting.Waiting.{Waiting}
use Rattle.dim_queue.specs.declared.places.Place.{Place}
use Rattle.dim_queue.specs.declared.queues.Queues.TheInside.{Inside}
use Rattle.dim_queue.specs.Plain.{QueueState, QueuesState, queue_at, AreApart}
use Rattle.dim_queue.specs.QueueList.{state_of, room_of, AreInOrder}

-- what contracts see of the queues
abbrev pub states_of : Inside → List QueueState
states_of q = map state_of q.queues.items

-- the queues, and the set of the one that is ready
abbrev pub all_of : Inside → QueuesState
all_of q = record { queues = states_of q; ready = option_map (λ at. (queue_at (states_of q) at).set) q.ready }

-- the map has the place of each waiting task
abbrev pub ArePlaced : List QueueState → (ℕ → Option Place) → Type 0
ArePlaced queues place_of =
    (k : ℕ) (w : Waiting) → Contains (queue_at queues k).tasks w → place_of w.number ≡ Some (record { queue = k; priority = w.priority })

-- and at each place of the map its task waits
abbrev pub AreKnown : List QueueState → (ℕ → Option Place) → Type 0
AreKnown queues place_of =
    (number : ℕ) (p : Place) → place_of number ≡ Some p → Contains (queue_at queues p.queue).tasks (record { priority = p.priority; number = number })

-- the queues are apart and in order, the map has the same tasks, and what is ready has room
pub record IsConsistent (q : Inside) : Type 0 where
  pub apart : AreApart (states_of q)
  pub order : AreInOrder (states_of q)
  pub placed : ArePlaced (states_of q) (get nat_eq q.places)
  pub known : AreKnown (states_of q) (get nat_eq q.places)
  pub prepared : IfSome q.ready (λ at. (0 < slice_index (map room_of q.queues.items) at) × (0 < spare q.places))
