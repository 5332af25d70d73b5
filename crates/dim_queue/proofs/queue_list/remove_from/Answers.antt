use Rattle.std.proofs.Common.{map, subst, sym, set, get_or}
use Rattle.block_list.specs.Rising.{Removes}
use Rattle.dim_queue.specs.Plain.{QueueState, queue_at}
use Rattle.dim_queue.specs.QueueList.{state_of}
use Rattle.dim_queue.proofs.Changes.{here, same_others, in_order, changed, rooms, task_low}
use Rattle.dim_queue.proofs.queue_list.remove_from.Goals as goal

pub returns-clause-others : goal.returns-clause-others
returns-clause-others c =
    let queues = c.args.queues.now in
    let low = task_low queues c.args.at c.args.waiting c.requires.there in
    same_others queues c.args.at low c.remove.new.self c.index-queues-at.result c.remove.ensures.set

pub returns-clause-order : goal.returns-clause-order
returns-clause-order c =
    let queues = c.args.queues.now in
    let low = task_low queues c.args.at c.args.waiting c.requires.there in
    in_order queues c.args.at low c.remove.new.self c.requires.order c.remove.ensures.order

pub returns-clause-removes : goal.returns-clause-removes
returns-clause-removes c =
    let queues = c.args.queues.now in
    let low = task_low queues c.args.at c.args.waiting c.requires.there in
    let old = (get_or queues c.args.at c.index-queues-at.result).tasks.items in
    subst (λ (l : QueueState). Removes c.args.waiting l.tasks (queue_at (map state_of (set queues c.args.at c.remove.new.self)) c.args.at).tasks) (sym (here queues c.args.at low c.index-queues-at.result))
    (subst (λ (l : QueueState). Removes c.args.waiting old l.tasks) (sym (changed queues c.args.at low c.remove.new.self)) c.remove.ensures.removes)

pub returns-clause-rooms : goal.returns-clause-rooms
returns-clause-rooms c =
    let queues = c.args.queues.now in
    let low = task_low queues c.args.at c.args.waiting c.requires.there in
    rooms queues c.args.at low c.remove.new.self c.index-queues-at.result c.remove.ensures.room
