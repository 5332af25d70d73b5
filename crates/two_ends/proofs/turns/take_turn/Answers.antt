-- Where the bot's turn wants memory, the world stays.
use Rattle.two_ends.proofs.Calls.{stays_settled}
use Rattle.two_ends.proofs.turns.take_turn.Goals as goal

pub returns-in-Answer-clause-part : goal.returns-in-Answer-clause-part
returns-in-Answer-clause-part g c =
    stays_settled (g.M.Machine.kept c.args.machine.now) c.args.end.now c.take_reply.new.self c.take_reply.result c.requires.legal c.take_reply.ensures.kept

pub returns-in-Lose-clause-part : goal.returns-in-Lose-clause-part
returns-in-Lose-clause-part g c = stays_settled (g.M.Machine.kept c.args.machine.now) c.args.end.now c.lose.new.self c.lose.result c.requires.legal c.lose.ensures.kept

pub returns-in-Wake-clause-part : goal.returns-in-Wake-clause-part
returns-in-Wake-clause-part g c = stays_settled (g.M.Machine.kept c.args.machine.now) c.args.end.now c.wake.new.self c.wake.result c.requires.legal c.wake.ensures.kept

pub returns-in-Child-clause-part : goal.returns-in-Child-clause-part
returns-in-Child-clause-part g c =
    stays_settled (g.M.Machine.kept c.args.machine.now) c.args.end.now c.hear_child.new.self c.hear_child.result c.requires.legal c.hear_child.ensures.kept
