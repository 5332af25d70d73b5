use Rattle.std.proofs.Common.{subst, rules}
use Rattle.block_list.proofs.Rising.{rising_with, adds}
use Rattle.swarm_model.specs.Deadlines.{is_earlier}
use Rattle.pool_index.specs.QueuedDeadlines.{DeadlineQueueState, Adds}
use Rattle.pool_index.proofs.DeadlineOrder.{strict}
use Rattle.pool_index.proofs.deadline_queue.DeadlineQueue.add.Goals as goal

pub invariant_of-self : goal.invariant_of-self
invariant_of-self c = record {
  rising = rising_with is_earlier strict c.self.inside.deadlines.items c.self.invariant.rising c.args.deadline (λ a r f called. (search rules, search rules)) _ c.insert_at_partition.ensures.items c.if-not-contains.ensures;
}

pub returns-then-not-contains-clause-deadlines : goal.returns-then-not-contains-clause-deadlines
returns-then-not-contains-clause-deadlines c =
    subst (λ (s : DeadlineQueueState). Adds c.args.deadline s.deadlines c.insert_at_partition.new.self.items) c.self.view_is
    (adds is_earlier strict c.self.inside.deadlines.items c.self.invariant.rising c.args.deadline (λ a r f called. (search rules, search rules)) _ c.insert_at_partition.ensures.items)
