-- What the map says of the tasks stays true when a task enters or leaves, and when room is made.
use Rattle.std.proofs.Common.{◌≡◌, ◌≢◌, ℕ, List, ◌⊎◌, inl, inr, refl, sym, ap, ◌∙◌, subst, Option, Some, None}
use Rattle.std.specs.List.{Contains}
use Rattle.std.proofs.lemmas.Bool.{cases_eq}
use Rattle.block_list.specs.Rising.{Adds, Removes}
use Rattle.dim_queue.specs.declared.queue_set.QueueSet.{QueueSet}
use Rattle.dim_queue.specs.declared.waiting.Waiting.{Waiting}
use Rattle.dim_queue.specs.declared.places.Place.{Place}
use Rattle.dim_queue.specs.Order.{IsInOrder}
use Rattle.dim_queue.specs.Plain.{QueueState, queue_at, Waits, SameWaits, Enters, Leaves, IsAbsent}
use Rattle.dim_queue.specs.QueueList.{SameOthers, SameTasks, AreInOrder}
use Rattle.dim_queue.specs.Inside.{ArePlaced, AreKnown}

abbrev pub one_at : ℕ → ℕ → Waiting
one_at priority number = record { priority = priority; number = number }

pub waits_at : {states : List QueueState} (k : ℕ) (w : Waiting) → Contains (queue_at states k).tasks w → Waits states w (queue_at states k).set
waits_at k w there = record { place = k; alike = refl; stands = there }

module _ (old new : List QueueState) (before after : ℕ → Option Place) (at priority number : ℕ) (placed : ArePlaced old before) (known : AreKnown old before)
    (own : after number ≡ Some (record { queue = at; priority = priority })) (others : (q : ℕ) → q ≢ number → after q ≡ before q) (same : SameOthers at old new)
    (adds : Adds (one_at priority number) (queue_at old at).tasks (queue_at new at).tasks) (absent : IsAbsent number old) where
  old_placed : (k : ℕ) (w : Waiting) → Contains (queue_at old k).tasks w → after w.number ≡ Some (record { queue = k; priority = w.priority })
  old_placed k w there = others w.number (absent w (queue_at old k).set (waits_at k w there)) ∙ placed k w there

  -- a task of a queue is the new one, or was there before
  new_or_old : (k : ℕ) (w : Waiting) → Contains (queue_at new k).tasks w → ((k ≡ at) × (w ≡ one_at priority number)) ⊎ Contains (queue_at old k).tasks w
  new_or_old k w there = elim (cases_eq k at) [
    | inr ne ↦ inr (subst (λ (l : QueueState). Contains l.tasks w) (same.other k ne) there)
    | inl e ↦ elim ((adds.each w).0 (subst (λ (i : ℕ). Contains (queue_at new i).tasks w) e there)) [
      | inl one ↦ inl (e, one)
      | inr stood ↦ inr (subst (λ (i : ℕ). Contains (queue_at old i).tasks w) (sym e) stood)
    ]
  ]

  -- and none is lost
  old_in_new : (k : ℕ) (w : Waiting) → Contains (queue_at old k).tasks w → Contains (queue_at new k).tasks w
  old_in_new k w there = elim (cases_eq k at) [
    | inr ne ↦ subst (λ (l : QueueState). Contains l.tasks w) (sym (same.other k ne)) there
    | inl e ↦ subst (λ (i : ℕ). Contains (queue_at new i).tasks w) (sym e) ((adds.each w).1 (inr (subst (λ (i : ℕ). Contains (queue_at old i).tasks w) e there)))
  ]

  same_set : (k : ℕ) → (queue_at new k).set ≡ (queue_at old k).set
  same_set k = elim (cases_eq k at) [
    | inr ne ↦ ap (λ (l : QueueState). l.set) (same.other k ne)
    | inl e ↦ ap (λ (i : ℕ). (queue_at new i).set) e ∙ same.set ∙ ap (λ (i : ℕ). (queue_at old i).set) (sym e)
  ]

  pub enter_placed : ArePlaced new after
  enter_placed k w there = elim (new_or_old k w there) [
    | inr stood ↦ old_placed k w stood
    | inl it ↦
        subst (λ (v : Waiting). after v.number ≡ Some (record { queue = k; priority = v.priority })) (sym it.1)
        (subst (λ (i : ℕ). after number ≡ Some (record { queue = i; priority = priority })) (sym it.0) own)
  ]

  pub enter_known : AreKnown new after
  enter_known n p e = elim (cases_eq n number) [
    | inr ne ↦ old_in_new p.queue (one_at p.priority n) (known n p (sym (others n ne) ∙ e))
    | inl is ↦
        let found : Some p ≡ Some (record { queue = at; priority = priority }) = sym e ∙ ap after is ∙ own in
        let p_is : p ≡ record { queue = at; priority = priority } = cc (found) in
        subst (λ (q : Place). Contains (queue_at new q.queue).tasks (one_at q.priority n)) (sym p_is)
        (subst (λ (i : ℕ). Contains (queue_at new at).tasks (one_at priority i)) (sym is) ((adds.each (one_at priority number)).1 (inl refl)))
  ]

  pub enter_waits : (its : QueueSet) → (queue_at old at).set ≡ its → Enters (one_at priority number) its old new
  enter_waits its is w set = (there, back)
    where
      there : Waits new w set → ((w ≡ one_at priority number) × (set ≡ its)) ⊎ Waits old w set
      there h = elim (new_or_old h.place w h.stands) [
        | inr stood ↦ inr (record { place = h.place; alike = sym (same_set h.place) ∙ h.alike; stands = stood })
        | inl it ↦ inl (it.1, sym h.alike ∙ same_set h.place ∙ ap (λ (i : ℕ). (queue_at old i).set) it.0 ∙ is)
      ]

      back : ((w ≡ one_at priority number) × (set ≡ its)) ⊎ Waits old w set → Waits new w set
      back (inl it) = record { place = at; alike = same_set at ∙ is ∙ sym it.1; stands = (adds.each w).1 (inl it.0) }
      back (inr h) = record { place = h.place; alike = same_set h.place ∙ h.alike; stands = old_in_new h.place w h.stands }

module _ (old new : List QueueState) (before after : ℕ → Option Place) (p : Place) (number : ℕ) (placed : ArePlaced old before) (known : AreKnown old before)
    (found : before number ≡ Some p) (own : after number ≡ None) (others : (q : ℕ) → q ≢ number → after q ≡ before q) (same : SameOthers p.queue old new)
    (removes : Removes (one_at p.priority number) (queue_at old p.queue).tasks (queue_at new p.queue).tasks) where
  -- only one task has the number
  task_of_number : (k : ℕ) (w : Waiting) → Contains (queue_at old k).tasks w → w.number ≡ number → (k ≡ p.queue) × (w ≡ one_at p.priority number)
  task_of_number k w there e =
      let both : Some (record { queue = k; priority = w.priority }) ≡ Some p = sym (placed k w there) ∙ ap before e ∙ found in
      let queue : k ≡ p.queue = cc (both) in
      let priority : w.priority ≡ p.priority = cc (both) in
      (queue, ap (λ (x : ℕ). one_at x w.number) priority ∙ ap (one_at p.priority) e)

  -- a task of a queue was there before, and has another number
  old_and_other : (k : ℕ) (w : Waiting) → Contains (queue_at new k).tasks w → Contains (queue_at old k).tasks w × (w.number ≢ number)
  old_and_other k w there = elim (cases_eq k p.queue) [
    | inr ne ↦
        let stood = subst (λ (l : QueueState). Contains l.tasks w) (same.other k ne) there in
        (stood, λ e. ne (task_of_number k w stood e).0)
    | inl is ↦
        let two = (removes.each w).0 (subst (λ (i : ℕ). Contains (queue_at new i).tasks w) is there) in
        let stood = subst (λ (i : ℕ). Contains (queue_at old i).tasks w) (sym is) two.0 in
        (stood, λ e. two.1 (task_of_number k w stood e).1)
  ]

  other_in_new : (k : ℕ) (w : Waiting) → Contains (queue_at old k).tasks w → w.number ≢ number → Contains (queue_at new k).tasks w
  other_in_new k w there other = elim (cases_eq k p.queue) [
    | inr ne ↦ subst (λ (l : QueueState). Contains l.tasks w) (sym (same.other k ne)) there
    | inl is ↦
        subst (λ (i : ℕ). Contains (queue_at new i).tasks w) (sym is)
        ((removes.each w).1 (subst (λ (i : ℕ). Contains (queue_at old i).tasks w) is there, λ e. other (ap (λ (v : Waiting). v.number) e)))
  ]

  same_set_left : (k : ℕ) → (queue_at new k).set ≡ (queue_at old k).set
  same_set_left k = elim (cases_eq k p.queue) [
    | inr ne ↦ ap (λ (l : QueueState). l.set) (same.other k ne)
    | inl e ↦ ap (λ (i : ℕ). (queue_at new i).set) e ∙ same.set ∙ ap (λ (i : ℕ). (queue_at old i).set) (sym e)
  ]

  pub leave_placed : ArePlaced new after
  leave_placed k w there = let two = old_and_other k w there in others w.number two.1 ∙ placed k w two.0

  pub leave_known : AreKnown new after
  leave_known n q e = elim (cases_eq n number) [
    | inl is ↦ absurd (let none : Some q ≡ None = sym e ∙ ap after is ∙ own in cc (none))
    | inr ne ↦ other_in_new q.queue (one_at q.priority n) (known n q (sym (others n ne) ∙ e)) ne
  ]

  pub leave_waits : Leaves number old new
  leave_waits w set = (there, λ both. back both.0 both.1)
    where
      there : Waits new w set → Waits old w set × (w.number ≢ number)
      there h = let two = old_and_other h.place w h.stands in (record { place = h.place; alike = sym (same_set_left h.place) ∙ h.alike; stands = two.0 }, two.1)

      back : Waits old w set → w.number ≢ number → Waits new w set
      back h other = record { place = h.place; alike = same_set_left h.place ∙ h.alike; stands = other_in_new h.place w h.stands other }

-- no task has a number that the map does not have
pub leaves_nothing : (states : List QueueState) (before : ℕ → Option Place) (number : ℕ) → ArePlaced states before → before number ≡ None → Leaves number states states
leaves_nothing states before number placed none w set = (λ h. (h, λ e. absurd (let both : Some (record { queue = h.place; priority = w.priority }) ≡ None = sym (placed h.place w h.stands) ∙ ap before e ∙ none in cc (both))), λ two. two.0)

module _ (old new : List QueueState) (same : SameTasks old new) where
  pub same_waits : SameWaits old new
  same_waits w set = (there, back)
    where
      there : Waits new w set → Waits old w set
      there h = let stood = subst (λ (l : List Waiting). Contains l w) (same.tasks h.place) h.stands in record { place = h.place; alike = sym (same.set h.place w stood) ∙ h.alike; stands = stood }

      back : Waits old w set → Waits new w set
      back h = record { place = h.place; alike = same.set h.place w h.stands ∙ h.alike; stands = subst (λ (l : List Waiting). Contains l w) (sym (same.tasks h.place)) h.stands }

  pub same_order : AreInOrder old → AreInOrder new
  same_order order k = subst IsInOrder (sym (same.tasks k)) (order k)

  module _ (before after : ℕ → Option Place) (alike : (q : ℕ) → after q ≡ before q) where
    pub same_placed : ArePlaced old before → ArePlaced new after
    same_placed placed k w there = alike w.number ∙ placed k w (subst (λ (l : List Waiting). Contains l w) (same.tasks k) there)

    pub same_known : AreKnown old before → AreKnown new after
    same_known known n p e = subst (λ (l : List Waiting). Contains l (one_at p.priority n)) (sym (same.tasks p.queue)) (known n p (sym (alike n) ∙ e))

pub same_tasks : (states : List QueueState) → SameTasks states states
same_tasks states = record { tasks = λ k. refl; set = λ k w there. refl }
