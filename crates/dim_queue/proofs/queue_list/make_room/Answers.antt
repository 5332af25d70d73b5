use Rattle.std.proofs.Common.{◌<◌, ℕ, subst, sym}
use Rattle.std.specs.Prelude.{OnOk}
use Rattle.dim_queue.proofs.Changes.{as_before, new_room}
use Rattle.dim_queue.proofs.queue_list.make_room.Goals as goal

pub returns-clause-room : goal.returns-clause-room
returns-clause-room c =
    subst (λ (n : ℕ). OnOk c.reserve.result (0 < n)) (sym (new_room c.args.queues.now c.args.at c.requires c.reserve.new.self)) c.reserve.ensures.room

pub returns-clause-same : goal.returns-clause-same
returns-clause-same c = as_before c.args.queues.now c.args.at c.requires c.reserve.new.self c.index-queues-at.result c.reserve.ensures.set c.reserve.ensures.tasks
