use Rattle.std.proofs.Common.{None, Option, sym, subst}
use Rattle.swarm_model.specs.declared.deadline.Deadline.{Deadline}
use Rattle.index_laws.specs.BlobDeadlines.{AreMoved}
use Rattle.swarm_machine.proofs.Moving.{none_moved, put_in}
use Rattle.swarm_machine.proofs.deadlines.put_in.Goals as goal

pub returns-in-None : goal.returns-in-None
returns-in-None c =
    let old = c.args.ends.now.deadlines in
    subst (λ (o : Option Deadline). AreMoved None o old old) (sym c.in-None.is) (none_moved old)

pub returns-in-Some : goal.returns-in-Some
returns-in-Some c =
    let old = c.args.ends.now.deadlines in
    let new = c.add.new.self.deadlines in
    subst (λ (o : Option Deadline). AreMoved None o old new) (sym c.in-Some.is) (put_in c.in-Some.deadline old new c.add.ensures.deadlines)
