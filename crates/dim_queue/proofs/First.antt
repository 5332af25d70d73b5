-- The first task of a queue, and of several queues.
use Rattle.std.proofs.Common.{◌≡◌, ℕ, ◌+◌, ◌<◌, true, List, [], ◌∷◌, ◌⊎◌, inl, inr, length, get_or, refl, sym, ◌∙◌, subst, arith, Option, Some, None}
use Rattle.std.specs.Prelude.{slice_get}
use Rattle.std.proofs.lemmas.Bool.{cases_eq, cond_both, false≢true}
use Rattle.block_list.proofs.Rising.{least}
use Rattle.dim_queue.specs.declared.queue_set.QueueSet.{QueueSet}
use Rattle.dim_queue.specs.Taking.{Taker, may_take}
use Rattle.dim_queue.specs.declared.waiting.Waiting.{Waiting}
use Rattle.dim_queue.specs.Order.{goes_first, IsInOrder}
use Rattle.dim_queue.specs.Plain.{QueueState, queue_at}
use Rattle.dim_queue.specs.QueueList.{IsFirstOf, MayTake, IsCandidate, MayTakeFrom, first_match, earlier_of}
use Rattle.dim_queue.proofs.Order.{strict, not_chain, one_way}

module _ (P Q R : Waiting → Type 0) (split : (w : Waiting) → R w → P w ⊎ Q w) (of_left : (w : Waiting) → P w → R w) (of_right : (w : Waiting) → Q w → R w) where
  pub merge : (a b : Option Waiting) → IsFirstOf P a → IsFirstOf Q b → IsFirstOf R (earlier_of a b)
  merge None None g h = λ w r. elim (split w r) [ inl p ↦ g w p | inr q ↦ h w q ]
  merge None (Some b) g h = (of_right b h.0, λ w r. elim (split w r) [ inl p ↦ absurd (g w p) | inr q ↦ h.1 w q ])
  merge (Some a) None g h = (of_left a g.0, λ w r. elim (split w r) [ inl p ↦ g.1 w p | inr q ↦ absurd (h w q) ])
  merge (Some a) (Some b) g h =
      cond_both (goes_first b a) (Some b) (Some a) (λ (x : Option Waiting). IsFirstOf R x)
      (λ t. (of_right b h.0, λ w r. elim (split w r) [ inl p ↦ not_chain b a w (one_way b a t) (g.1 w p) | inr q ↦ h.1 w q ]))
      (λ f. (of_left a g.0, λ w r. elim (split w r) [ inl p ↦ g.1 w p | inr q ↦ not_chain a b w f (h.1 w q) ]))

module _ (bot : Taker) (set : QueueSet) (tasks : List Waiting) where
  pub candidate_none : length tasks ≡ 0 → IsCandidate bot set tasks None
  candidate_none empty w takes = let c = takes.1 in let low : c.0 < length tasks = c.1 in omega arith

  pub candidate_some : (w : Waiting) → IsInOrder tasks → may_take bot set ≡ true → 0 < length tasks → w ≡ get_or tasks 0 w → IsCandidate bot set tasks (Some w)
  candidate_some w order fits some is = ((fits, (0, some, sym is)), λ o takes. least goes_first strict tasks order w o some is takes.1)

first_taken : (bot : Taker) (set : QueueSet) (tasks : List Waiting) → IsInOrder tasks → may_take bot set ≡ true → IsCandidate bot set tasks (slice_get tasks 0)
first_taken bot set [] order fits = candidate_none bot set [] refl
first_taken bot set (w ∷ ws) order fits = candidate_some bot set (w ∷ ws) w order fits (omega arith) refl

pub candidate_is : (bot : Taker) (queue : QueueState) → IsInOrder queue.tasks → IsCandidate bot queue.set queue.tasks (first_match bot queue)
candidate_is bot queue order =
    cond_both (may_take bot queue.set) (slice_get queue.tasks 0) None (λ (x : Option Waiting). IsCandidate bot queue.set queue.tasks x)
    (λ t. first_taken bot queue.set queue.tasks order t)
    (λ f. λ w takes. absurd (false≢true (sym f ∙ takes.0)))

module _ (bot : Taker) (states : List QueueState) where
  pub none_yet : IsFirstOf (MayTakeFrom bot states 0) None
  none_yet w some = let low = some.low in absurd (omega arith)

  pub one_more : (at : ℕ) (best next : Option Waiting) → IsFirstOf (MayTakeFrom bot states at) best → IsCandidate bot (queue_at states at).set (queue_at states at).tasks next →
      IsFirstOf (MayTakeFrom bot states (at + 1)) (earlier_of best next)
  one_more at best next g h = merge (MayTakeFrom bot states at) (MayTake bot (queue_at states at).set (queue_at states at).tasks) (MayTakeFrom bot states (at + 1)) split of_left of_right best next g h
    where
      split : (w : Waiting) → MayTakeFrom bot states (at + 1) w → MayTakeFrom bot states at w ⊎ MayTake bot (queue_at states at).set (queue_at states at).tasks w
      split w some =
          elim (cases_eq some.place at) [
            | inl e ↦ inr (subst (λ (k : ℕ). MayTake bot (queue_at states k).set (queue_at states k).tasks w) e some.takes)
            | inr ne ↦ inl (let low = some.low in record { place = some.place; low = omega arith; takes = some.takes })
          ]

      of_left : (w : Waiting) → MayTakeFrom bot states at w → MayTakeFrom bot states (at + 1) w
      of_left w some = let low = some.low in record { place = some.place; low = omega arith; takes = some.takes }

      of_right : (w : Waiting) → MayTake bot (queue_at states at).set (queue_at states at).tasks w → MayTakeFrom bot states (at + 1) w
      of_right w takes = record { place = at; low = omega arith; takes = takes }
