use Rattle.std.proofs.Common.{refl, rules}
use Rattle.block_list.proofs.Rising.{rising_with, adds}
use Rattle.dim_queue.specs.Order.{goes_first}
use Rattle.dim_queue.proofs.Order.{strict}
use Rattle.dim_queue.proofs.queue.Queue.add.Goals as goal

pub returns-clause-order : goal.returns-clause-order
returns-clause-order c =
    rising_with goes_first strict c.args.self.now.tasks.items c.requires.order c.args.waiting (λ a r f called. (search rules, search rules)) _ c.insert_at_partition.ensures.items (λ there. c.requires.new c.args.waiting there refl)

pub returns-clause-adds : goal.returns-clause-adds
returns-clause-adds c =
    adds goes_first strict c.args.self.now.tasks.items c.requires.order c.args.waiting (λ a r f called. (search rules, search rules)) _ c.insert_at_partition.ensures.items
