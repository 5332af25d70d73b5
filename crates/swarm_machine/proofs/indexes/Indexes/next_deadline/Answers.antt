-- The earliest of the three that are at hand.
use Rattle.std.proofs.Common.{Option, ap, ◌∙◌}
use Rattle.swarm_model.specs.declared.deadline.Deadline.{Deadline}
use Rattle.pool_index.specs.Deadlines.{earlier_of}
use Rattle.index_laws.proofs.DeadlineIsNext.{deadline_is_next}
use Rattle.swarm_machine.proofs.indexes.Indexes.next_deadline.Goals as goal

pub returns : goal.returns
returns c = λ s sound indexes.
    let own = c.args.self.now in
    c.sooner_of.ensures
    ∙ ap (λ (o : Option Deadline). earlier_of o c.first-3.result) c.sooner_of-soonest.ensures
    ∙ deadline_is_next s sound own.task_ends own.bot_ends indexes.task_ends indexes.bot_ends own.blob_ends.deadlines indexes.blob_ends
    c.first.result c.first-2.result c.first-3.result c.first.ensures.first c.first-2.ensures.first c.first-3.ensures
