use Rattle.std.proofs.Common.{subst, rules}
use Rattle.block_list.proofs.Rising.{rising_without, removes}
use Rattle.swarm_model.specs.Deadlines.{is_earlier}
use Rattle.pool_index.specs.QueuedDeadlines.{DeadlineQueueState, Removes}
use Rattle.pool_index.proofs.DeadlineOrder.{strict}
use Rattle.pool_index.proofs.deadline_queue.DeadlineQueue.remove.Goals as goal

pub invariant_of-self : goal.invariant_of-self
invariant_of-self c = record {
  rising = rising_without is_earlier strict c.self.inside.deadlines.items c.self.invariant.rising c.args.deadline (λ a r f called. (search rules, search rules)) _ _ c.remove_at_partition.ensures.items c.if-contains.ensures;
}

pub returns-then-contains-clause-deadlines : goal.returns-then-contains-clause-deadlines
returns-then-contains-clause-deadlines c =
    subst (λ (s : DeadlineQueueState). Removes c.args.deadline s.deadlines c.remove_at_partition.new.self.items) c.self.view_is
    (removes is_earlier strict c.self.inside.deadlines.items c.self.invariant.rising c.args.deadline (λ a r f called. (search rules, search rules)) _ _ c.remove_at_partition.ensures.items c.if-contains.ensures)
