use Rattle.std.proofs.Common.{◌≢◌, ◌<◌, ℕ, length, map, get_or, subst, sym, ap, ◌∙◌, arith, inl, inr}
use Rattle.std.proofs.lemmas.Bool.{cases_eq}
use Rattle.std.proofs.lemmas.List.{length-map}
use Rattle.dim_queue.specs.Taking.{set_with}
use Rattle.dim_queue.specs.Plain.{QueueState, queue_at}
use Rattle.dim_queue.specs.QueueList.{state_of}
use Rattle.dim_queue.proofs.Changes.{here}
use Rattle.dim_queue.proofs.queue_list.find.Goals as goal

pub loop-at-preserved : goal.loop-at-preserved
loop-at-preserved c k less =
    let queues = c.args.queues.now in
    let at = c.loop-at.at in
    let low : at < length queues = omega arith in
    let queue = get_or queues at c.index-queues-at.result in
    let other : queue.set ≢ set_with c.args.dims.now c.args.but = c.is.ensures.other c.if-is.false in
    elim (cases_eq k at) [
      | inl same ↦
          subst (λ (i : ℕ). (queue_at (map state_of queues) i).set ≢ set_with c.args.dims.now c.args.but) (sym same)
          (subst (λ (l : QueueState). l.set ≢ set_with c.args.dims.now c.args.but) (sym (here queues at low c.index-queues-at.result)) other)
      | inr off ↦ c.loop-at.invariant k (omega arith)
    ]

pub returns-then-is : goal.returns-then-is
returns-then-is c =
    let queues = c.args.queues.now in
    let low : c.loop-at.at < length queues = omega arith in
    record {
      low = omega (arith, length-map queues state_of);
      alike = ap (λ (l : QueueState). l.set) (here queues c.loop-at.at low c.index-queues-at.result) ∙ c.is.ensures.same c.if-is.true;
    }
