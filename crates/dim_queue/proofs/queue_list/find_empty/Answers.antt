use Rattle.std.proofs.Common.{◌≡◌, ◌<◌, ℕ, false, length, map, get_or, subst, sym, arith, inl, inr}
use Rattle.std.specs.Prelude.{◌==◌}
use Rattle.std.proofs.lemmas.Bool.{cases_eq}
use Rattle.std.proofs.lemmas.Bool.Decides.{nat_tests}
use Rattle.dim_queue.specs.Plain.{QueueState, queue_at}
use Rattle.dim_queue.specs.QueueList.{state_of}
use Rattle.dim_queue.proofs.Changes.{here}
use Rattle.dim_queue.proofs.queue_list.find_empty.Goals as goal

not_zero : (n : ℕ) → false ≡ (n == 0) → 0 < n
not_zero n e = grind (arith, nat_tests)

pub loop-at-preserved : goal.loop-at-preserved
loop-at-preserved c k less =
    let queues = c.args.queues.now in
    let at = c.loop-at.at in
    let queue = get_or queues at c.index-queues-at.result in
    let low : at < length queues = omega arith in
    let some : 0 < length queue.tasks.items = not_zero (length queue.tasks.items) c.if-is_empty.ensures in
    elim (cases_eq k at) [
      | inl same ↦
          subst (λ (i : ℕ). 0 < length (queue_at (map state_of queues) i).tasks) (sym same)
          (subst (λ (l : QueueState). 0 < length l.tasks) (sym (here queues at low c.index-queues-at.result)) some)
      | inr other ↦ c.loop-at.invariant k (omega arith)
    ]
