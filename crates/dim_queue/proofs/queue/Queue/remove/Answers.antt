use Rattle.std.proofs.Common.{rules}
use Rattle.block_list.proofs.Rising.{rising_without, removes}
use Rattle.dim_queue.specs.Order.{goes_first}
use Rattle.dim_queue.proofs.Order.{strict}
use Rattle.dim_queue.proofs.queue.Queue.remove.Goals as goal

pub returns-clause-order : goal.returns-clause-order
returns-clause-order c =
    rising_without goes_first strict c.args.self.now.tasks.items c.requires.order c.args.waiting (λ a r f called. (search rules, search rules)) _ _ c.remove_at_partition.ensures.items c.requires.there

pub returns-clause-removes : goal.returns-clause-removes
returns-clause-removes c =
    removes goes_first strict c.args.self.now.tasks.items c.requires.order c.args.waiting (λ a r f called. (search rules, search rules)) _ _ c.remove_at_partition.ensures.items c.requires.there
