use Rattle.std.proofs.Common.{◌≡◌, ℕ, ◌+◌, ◌<◌, length, map, sym, ap, ◌∙◌, subst, arith, Option}
use Rattle.dim_queue.specs.Taking.{taker}
use Rattle.dim_queue.specs.declared.waiting.Waiting.{Waiting}
use Rattle.dim_queue.specs.Plain.{QueueState, queue_at}
use Rattle.dim_queue.specs.QueueList.{state_of, IsFirstOf, MayTakeFrom, first_match, earlier_of}
use Rattle.dim_queue.proofs.Changes.{here}
use Rattle.dim_queue.proofs.First.{candidate_is, one_more}
use Rattle.dim_queue.proofs.queue_list.first_for.Goals as goal

pub loop-at-preserved : goal.loop-at-preserved
loop-at-preserved c =
    let bot = taker c.args.no c.args.bot.now in
    let queues = c.args.queues.now in
    let states = map state_of queues in
    let at = c.loop-at.at in
    let queue = queue_at states at in
    let low : at < length queues = omega arith in
    let next = candidate_is bot queue (c.requires at) in
    let e : queue ≡ state_of c.index-queues-at.result = here queues at low c.index-queues-at.result ∙ ap state_of (sym c.index-queues-at.is) in
    let is : c.earlier_match-best.result ≡ earlier_of c.loop-at.best (first_match bot queue) =
    subst (λ (q : QueueState). c.earlier_match-best.result ≡ earlier_of c.loop-at.best (first_match bot q)) (sym e) c.earlier_match-best.ensures in
    subst (λ (o : Option Waiting). IsFirstOf (MayTakeFrom bot states (at + 1)) o) (sym is) (one_more bot states at c.loop-at.best (first_match bot queue) c.loop-at.invariant next)

pub returns : goal.returns
returns c =
    let e : c.loop-at.at ≡ length c.args.queues.now = omega arith in
    subst (λ (n : ℕ). IsFirstOf (MayTakeFrom (taker c.args.no c.args.bot.now) (map state_of c.args.queues.now) n) c.loop-at.best) e c.loop-at.invariant
