use Rattle.link_writer.proofs.Pieces.{both_sent, front_cut}
use Rattle.link_writer.proofs.sending.send_apart.Goals as goal

pub returns-in-Ok-clause-sends : goal.returns-in-Ok-clause-sends
returns-in-Ok-clause-sends g c = let p = c.in-Ok.ensures in both_sent p p.outcome p.faults c.send_flushed.ensures.sends

pub returns-in-Err-clause-sends : goal.returns-in-Err-clause-sends
returns-in-Err-clause-sends g c = front_cut c.args.body.now c.in-Err.ensures
