use Rattle.std.proofs.Common.{None, Option, sym, subst}
use Rattle.swarm_model.specs.declared.deadline.Deadline.{Deadline}
use Rattle.index_laws.specs.BlobDeadlines.{AreMoved}
use Rattle.swarm_machine.proofs.Moving.{none_moved, taken_out}
use Rattle.swarm_machine.proofs.deadlines.remove_deadline.Goals as goal

pub returns-in-None-clause-moved : goal.returns-in-None-clause-moved
returns-in-None-clause-moved c =
    let old = c.args.ends.now.deadlines in
    subst (λ (o : Option Deadline). AreMoved o None old old) (sym c.in-None.is) (none_moved old)

pub returns-in-Some-clause-moved : goal.returns-in-Some-clause-moved
returns-in-Some-clause-moved c =
    let old = c.args.ends.now.deadlines in
    let new = c.remove.new.self.deadlines in
    subst (λ (o : Option Deadline). AreMoved o None old new) (sym c.in-Some.is) (taken_out c.in-Some.deadline old new c.remove.ensures.deadlines)
