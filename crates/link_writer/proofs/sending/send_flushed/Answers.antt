use Rattle.link_writer.proofs.Pieces.{flushed}
use Rattle.link_writer.proofs.sending.send_flushed.Goals as goal

pub returns-in-Ok-clause-sends : goal.returns-in-Ok-clause-sends
returns-in-Ok-clause-sends g c = let p = c.in-Ok.ensures in flushed p p.outcome p.faults c.flush.ensures
