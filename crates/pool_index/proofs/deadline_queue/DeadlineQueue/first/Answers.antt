use Rattle.std.proofs.Common.{Option, sym, subst, ◌∙◌}
use Rattle.swarm_model.specs.declared.deadline.Deadline.{Deadline}
use Rattle.pool_index.specs.QueuedDeadlines.{DeadlineQueueState, IsEarliestOf}
use Rattle.pool_index.proofs.QueuedDeadlines.{earliest}
use Rattle.pool_index.proofs.deadline_queue.DeadlineQueue.first.Goals as goal

pub returns : goal.returns
returns c =
    subst (λ (s : DeadlineQueueState). IsEarliestOf s.deadlines c.copied.result) c.self.view_is
    (subst (λ (first : Option Deadline). IsEarliestOf c.self.inside.deadlines.items first) (sym (c.copied.ensures ∙ c.first.ensures)) (earliest c.self.inside.deadlines.items c.self.invariant.rising))
