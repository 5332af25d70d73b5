use Rattle.std.proofs.Common.{◌≢◌, map, subst, sym, set, get_or}
use Rattle.std.specs.List.{Contains}
use Rattle.dim_queue.specs.declared.waiting.Waiting.{Waiting}
use Rattle.block_list.specs.Rising.{Adds}
use Rattle.dim_queue.specs.Order.{IsInOrder}
use Rattle.dim_queue.specs.Plain.{QueueState, queue_at}
use Rattle.dim_queue.specs.QueueList.{state_of}
use Rattle.dim_queue.proofs.Changes.{here, same_others, in_order, changed, room_low}
use Rattle.dim_queue.proofs.queue_list.push_waiting_at.Goals as goal

pub add-requires-clause-order : goal.add-requires-clause-order
add-requires-clause-order c =
    let queues = c.args.queues.now in
    let low = room_low queues c.args.at c.requires.room in
    subst (λ (l : QueueState). IsInOrder l.tasks) (here queues c.args.at low c.index-queues-at.result) (c.requires.order c.args.at)

pub add-requires-clause-new : goal.add-requires-clause-new
add-requires-clause-new c =
    let queues = c.args.queues.now in
    let low = room_low queues c.args.at c.requires.room in
    subst (λ (l : QueueState). (w : Waiting) → Contains l.tasks w → w ≢ c.args.waiting) (here queues c.args.at low c.index-queues-at.result) c.requires.new

pub returns-clause-others : goal.returns-clause-others
returns-clause-others c =
    let queues = c.args.queues.now in
    let low = room_low queues c.args.at c.requires.room in
    same_others queues c.args.at low c.add.new.self c.index-queues-at.result c.add.ensures.set

pub returns-clause-order : goal.returns-clause-order
returns-clause-order c =
    let queues = c.args.queues.now in
    let low = room_low queues c.args.at c.requires.room in
    in_order queues c.args.at low c.add.new.self c.requires.order c.add.ensures.order

pub returns-clause-adds : goal.returns-clause-adds
returns-clause-adds c =
    let queues = c.args.queues.now in
    let low = room_low queues c.args.at c.requires.room in
    let old = (get_or queues c.args.at c.index-queues-at.result).tasks.items in
    subst (λ (l : QueueState). Adds c.args.waiting l.tasks (queue_at (map state_of (set queues c.args.at c.add.new.self)) c.args.at).tasks) (sym (here queues c.args.at low c.index-queues-at.result))
    (subst (λ (l : QueueState). Adds c.args.waiting old l.tasks) (sym (changed queues c.args.at low c.add.new.self)) c.add.ensures.adds)
