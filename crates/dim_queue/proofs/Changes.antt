-- A list of queues, before and after one of them changes.
use Rattle.std.proofs.Common.{◌≡◌, ◌≢◌, ℕ, ◌<◌, ◌≤◌, List, [], inl, inr, length, get_or, set, map, sym, ap, ◌∙◌, subst, arith}
use Rattle.std.specs.List.{Contains}
use Rattle.std.proofs.lemmas.Bool.{cases_eq, cases_lt}
use Rattle.std.proofs.lemmas.List.{get_or-map, map-set, get_or-set_same, get_or-set_other, length-map, get_or_past, set-get_or}
use Rattle.dim_queue.specs.declared.queue_set.QueueSet.{QueueSet}
use Rattle.dim_queue.specs.declared.waiting.Waiting.{Waiting}
use Rattle.dim_queue.specs.declared.queue.Queue.{Queue}
use Rattle.dim_queue.specs.Order.{IsInOrder}
use Rattle.dim_queue.specs.Plain.{QueueState, no_queue, queue_at}
use Rattle.dim_queue.specs.QueueList.{state_of, room_of, SameOthers, SameTasks, AreInOrder}

module _ (queues : List Queue) (at : ℕ) (low : at < length queues) where
  pub here : (d : Queue) → queue_at (map state_of queues) at ≡ state_of (get_or queues at d)
  here d = get_or-map state_of queues at d no_queue low

  pub room_here : (d : Queue) → get_or (map room_of queues) at 0 ≡ room_of (get_or queues at d)
  room_here d = get_or-map room_of queues at d 0 low

  module _ (q : Queue) where
    set_line : (k : ℕ) → queue_at (map state_of (set queues at q)) k ≡ queue_at (set (map state_of queues) at (state_of q)) k
    set_line k = ap (λ (ls : List QueueState). queue_at ls k) (map-set state_of queues at q)

    pub changed : queue_at (map state_of (set queues at q)) at ≡ state_of q
    changed = set_line at ∙ get_or-set_same (map state_of queues) at (state_of q) no_queue (omega (arith, length-map queues state_of))

    pub unchanged : (k : ℕ) → k ≢ at → queue_at (map state_of (set queues at q)) k ≡ queue_at (map state_of queues) k
    unchanged k ne = set_line k ∙ get_or-set_other (map state_of queues) at k (state_of q) no_queue ne

    pub same_others : (d : Queue) → q.set ≡ (get_or queues at d).set → SameOthers at (map state_of queues) (map state_of (set queues at q))
    same_others d e = record {
      other = unchanged;
      set = ap (λ (l : QueueState). l.set) changed ∙ e ∙ sym (ap (λ (l : QueueState). l.set) (here d));
    }

    pub in_order : AreInOrder (map state_of queues) → IsInOrder q.tasks.items → AreInOrder (map state_of (set queues at q))
    in_order old new k = elim (cases_eq k at) [
      | inl e ↦ subst (λ (i : ℕ). IsInOrder (queue_at (map state_of (set queues at q)) i).tasks) (sym e) (subst (λ (l : QueueState). IsInOrder l.tasks) (sym changed) new)
      | inr ne ↦ subst (λ (l : QueueState). IsInOrder l.tasks) (sym (unchanged k ne)) (old k)
    ]

    pub rooms : (d : Queue) → room_of (get_or queues at d) ≤ room_of q → (k : ℕ) → get_or (map room_of queues) k 0 ≤ get_or (map room_of (set queues at q)) k 0
    rooms d le k =
        let by_set : get_or (map room_of (set queues at q)) k 0 ≡ get_or (set (map room_of queues) at (room_of q)) k 0 = ap (λ (rs : List ℕ). get_or rs k 0) (map-set room_of queues at q) in
        elim (cases_eq k at) [
          | inl e ↦
              let same : get_or (set (map room_of queues) at (room_of q)) at 0 ≡ room_of q = get_or-set_same (map room_of queues) at (room_of q) 0 (omega (arith, length-map queues room_of)) in
              let new : get_or (map room_of (set queues at q)) k 0 ≡ room_of q = by_set ∙ ap (λ (i : ℕ). get_or (set (map room_of queues) at (room_of q)) i 0) e ∙ same in
              let old : get_or (map room_of queues) k 0 ≡ room_of (get_or queues at d) = ap (λ (i : ℕ). get_or (map room_of queues) i 0) e ∙ room_here d in
              omega arith
          | inr ne ↦
              let new : get_or (map room_of (set queues at q)) k 0 ≡ get_or (map room_of queues) k 0 = by_set ∙ get_or-set_other (map room_of queues) at k (room_of q) 0 ne in
              omega arith
        ]

-- a place with room is in the list
pub room_low : (queues : List Queue) (at : ℕ) → 0 < get_or (map room_of queues) at 0 → at < length queues
room_low queues at some = elim (cases_lt at (length queues)) [
  | inl low ↦ low
  | inr past ↦ let none : get_or (map room_of queues) at 0 ≡ 0 = get_or_past (map room_of queues) at 0 (omega (arith, length-map queues room_of)) in absurd (omega arith)
]

-- so is a place where a task waits
pub task_low : (queues : List Queue) (at : ℕ) (w : Waiting) → Contains (queue_at (map state_of queues) at).tasks w → at < length queues
task_low queues at w there = elim (cases_lt at (length queues)) [
  | inl low ↦ low
  | inr past ↦
      let none : queue_at (map state_of queues) at ≡ no_queue = get_or_past (map state_of queues) at no_queue (omega (arith, length-map queues state_of)) in
      let c = subst (λ (l : QueueState). Contains l.tasks w) none there in
      let low : c.0 < 0 = c.1 in absurd (omega arith)
]

module _ (queues : List Queue) (at : ℕ) (low : at < length queues) (q : Queue) where
  -- a queue that has the same tasks and set
  pub as_before : (d : Queue) → q.set ≡ (get_or queues at d).set → q.tasks.items ≡ (get_or queues at d).tasks.items → map state_of (set queues at q) ≡ map state_of queues
  as_before d e f =
      let same : state_of q ≡ queue_at (map state_of queues) at =
      ap (λ (x : QueueSet). record { set = x; tasks = q.tasks.items }) e ∙ ap (λ (x : List Waiting). record { set = (get_or queues at d).set; tasks = x }) f ∙ sym (here queues at low d) in
      map-set state_of queues at q ∙ ap (set (map state_of queues) at) same ∙ set-get_or (map state_of queues) at no_queue

  pub new_room : get_or (map room_of (set queues at q)) at 0 ≡ room_of q
  new_room = ap (λ (rs : List ℕ). get_or rs at 0) (map-set room_of queues at q) ∙ get_or-set_same (map room_of queues) at (room_of q) 0 (omega (arith, length-map queues room_of))

  -- a queue that has no tasks, as before
  pub emptied : (d : Queue) → (queue_at (map state_of queues) at).tasks ≡ [] → q.tasks.items ≡ (get_or queues at d).tasks.items → SameTasks (map state_of queues) (map state_of (set queues at q))
  emptied d none same = record {
    tasks = λ k. elim (cases_eq k at) [
      | inl e ↦ subst (λ (i : ℕ). (queue_at (map state_of (set queues at q)) i).tasks ≡ (queue_at (map state_of queues) i).tasks) (sym e) tasks_at
      | inr ne ↦ ap (λ (l : QueueState). l.tasks) (unchanged queues at low q k ne)
    ];
    set = λ k w there. elim (cases_eq k at) [
      | inl e ↦
          let c = subst (λ (l : List Waiting). Contains l w) none (subst (λ (i : ℕ). Contains (queue_at (map state_of queues) i).tasks w) e there) in
          let past : c.0 < 0 = c.1 in absurd (omega arith)
      | inr ne ↦ ap (λ (l : QueueState). l.set) (unchanged queues at low q k ne)
    ];
  }
    where
      tasks_at : (queue_at (map state_of (set queues at q)) at).tasks ≡ (queue_at (map state_of queues) at).tasks
      tasks_at = ap (λ (l : QueueState). l.tasks) (changed queues at low q) ∙ same ∙ sym (ap (λ (l : QueueState). l.tasks) (here queues at low d))
