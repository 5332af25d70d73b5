-- The first task of all queues is the one that the bot gets.
use Rattle.std.proofs.Common.{◌≡◌, ℕ, ◌<◌, true, List, inl, inr, length, refl, sym, subst, arith, Option, Some, None}
use Rattle.std.specs.List.{Contains}
use Rattle.std.proofs.lemmas.Bool.{cases_lt, false_from_ne_true}
use Rattle.std.proofs.lemmas.List.{get_or_past}
use Rattle.dim_queue.specs.declared.queue_set.QueueSet.{QueueSet}
use Rattle.dim_queue.specs.Taking.{Taker, may_take}
use Rattle.dim_queue.specs.declared.waiting.Waiting.{Waiting}
use Rattle.dim_queue.specs.Plain.{QueueState, no_queue, queue_at, Waits, IsNextOf}
use Rattle.dim_queue.specs.QueueList.{IsFirstOf, MayTakeFrom}

module _ (bot : Taker) (states : List QueueState) where
  in_queue : (k : ℕ) (w : Waiting) → Contains (queue_at states k).tasks w → k < length states
  in_queue k w there = elim (cases_lt k (length states)) [
    | inl low ↦ low
    | inr past ↦
        let none : queue_at states k ≡ no_queue = get_or_past states k no_queue past in
        let c = subst (λ (l : QueueState). Contains l.tasks w) none there in
        let low : c.0 < 0 = c.1 in absurd (omega arith)
  ]

  taken : (w : Waiting) (set : QueueSet) → Waits states w set → may_take bot set ≡ true → MayTakeFrom bot states (length states) w
  taken w set h fits = record {
    place = h.place;
    low = in_queue h.place w h.stands;
    takes = (subst (λ (d : QueueSet). may_take bot d ≡ true) (sym h.alike) fits, h.stands);
  }

  pub next_of : (n : ℕ) → n ≡ length states → (best : Option Waiting) → IsFirstOf (MayTakeFrom bot states n) best → IsNextOf states bot best
  next_of n e None none = λ w set h. false_from_ne_true (may_take bot set) (λ fits. none w (subst (λ (k : ℕ). MayTakeFrom bot states k w) (sym e) (taken w set h fits)))
  next_of n e (Some b) is = record {
    set = (queue_at states is.0.place).set;
    waits = record { place = is.0.place; alike = refl; stands = is.0.takes.1 };
    fits = is.0.takes.0;
    first = λ other others h fits. is.1 other (subst (λ (k : ℕ). MayTakeFrom bot states k other) (sym e) (taken other others h fits));
  }
