use Rattle.std.proofs.Common.{List, sym, length, map, subst, length}
use Rattle.std.proofs.lemmas.List.{length-map}
use Rattle.dim_queue.specs.Taking.{taker}
use Rattle.dim_queue.specs.declared.queue.Queue.{Queue}
use Rattle.dim_queue.specs.Plain.{QueuesState, IsNextOf}
use Rattle.dim_queue.specs.QueueList.{state_of, IsFirstOf, MayTakeFrom}
use Rattle.dim_queue.proofs.Next.{next_of}
use Rattle.dim_queue.proofs.queues.Queues.first_for.Goals as goal

pub returns : goal.returns
returns c =
    let queues = c.self.inside.queues.items in
    let best = c.first_for.result in
    let is = subst (λ (qs : List Queue). IsFirstOf (MayTakeFrom (taker c.args.no c.args.bot.now) (map state_of qs) (length qs)) best) c.as_slice.ensures.value c.first_for.ensures in
    subst (λ (k : QueuesState). IsNextOf k.queues (taker c.args.no c.args.bot.now) best) c.self.view_is
    (next_of (taker c.args.no c.args.bot.now) (map state_of queues) (length queues) (sym (length-map queues state_of)) best is)
