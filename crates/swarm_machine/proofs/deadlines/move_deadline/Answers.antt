use Rattle.swarm_machine.proofs.Moving.{moved}
use Rattle.swarm_machine.proofs.deadlines.move_deadline.Goals as goal

pub returns : goal.returns
returns c =
    moved c.args.gone c.args.come c.args.ends.now.deadlines c.remove_deadline.new.ends.deadlines c.put_in.new.ends.deadlines c.remove_deadline.ensures.moved c.put_in.ensures
