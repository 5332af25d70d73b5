-- After an entry only the place of the touched task in the queues differs.
use Rattle.std.proofs.Common.{◌≡◌, Bool, true, false, cond, inl, inr, ap, Option, Some, None}
use Rattle.std.specs.Option.{option_map}
use Rattle.std.proofs.lemmas.Option.{same_Some}
use Rattle.index_laws.specs.Types.{QueueSet, Slice, TaskRow, Waiting}
use Rattle.swarm_model.specs.Slices.{current_slice}
use Rattle.swarm_model.specs.Effects.{after}
use Rattle.pool_laws.proofs.Preconditions.{waits}
use Rattle.dim_queue.specs.Plain.{Waits}
use Rattle.index_laws.specs.Keys.{HasKey}
use Rattle.index_laws.specs.TaskQueues.{waiting_of, place_in, QueuesFollow}
use Rattle.index_laws.proofs.Keys.{keyed_after}

-- the place of a row holds its number
pub waiting_tells : (x : TaskRow) (k : Waiting × QueueSet) → waiting_of x ≡ Some k → x.no ≡ k.0.number
waiting_tells x k e = by_test (waits x) e
  where
    by_slice : (r : Option Slice) → option_map (place_in x) r ≡ Some k → x.no ≡ k.0.number
    by_slice None h = absurd (cc (h))
    by_slice (Some slice) h = ap (λ (p : Waiting × QueueSet). p.0.number) (same_Some _ _ h)

    by_test : (c : Bool) → cond c (option_map (place_in x) (current_slice x)) None ≡ Some k → x.no ≡ k.0.number
    by_test true h = by_slice (current_slice x) h
    by_test false h = absurd (cc (h))

pub queues_follow : QueuesFollow
queues_follow s e o follows old new queued is = record { each = λ w set. (there w set, back w set) }
  where
    there : (w : Waiting) (set : QueueSet) → Waits new w set → HasKey waiting_of (after s e).tasks (w, set)
    there w set h = elim ((is.each w set).0 h) [
      | inl both ↦ (keyed_after s e o follows waiting_of (λ (k : Waiting × QueueSet). k.0.number) waiting_tells (w, set)).1 (inl ((queued.each w set).0 both.0, both.1))
      | inr place ↦ (keyed_after s e o follows waiting_of (λ (k : Waiting × QueueSet). k.0.number) waiting_tells (w, set)).1 (inr place)
    ]

    back : (w : Waiting) (set : QueueSet) → HasKey waiting_of (after s e).tasks (w, set) → Waits new w set
    back w set h = elim ((keyed_after s e o follows waiting_of (λ (k : Waiting × QueueSet). k.0.number) waiting_tells (w, set)).0 h) [
      | inl both ↦ (is.each w set).1 (inl ((queued.each w set).1 both.0, both.1))
      | inr place ↦ (is.each w set).1 (inr place)
    ]
