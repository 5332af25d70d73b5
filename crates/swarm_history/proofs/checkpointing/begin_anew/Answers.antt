-- The lines are those of the rows, and the count that of the log.
use Rattle.std.proofs.Common.{arith}
use Rattle.swarm_history.proofs.Checkpoints.{begins_anew}
use Rattle.swarm_history.proofs.checkpointing.begin_anew.Goals as goal

pub returns-in-Ok-clause-anew : goal.returns-in-Ok-clause-anew
returns-in-Ok-clause-anew g c =
    let counted = c.length-count.ensures.length in
    let few = c.if-count-gt-MOST_COUNT.false in
    begins_anew (g.M.Machine.kept c.args.machine.now) c.length-count.ensures.history (omega (arith, counted, few)) c.in_ok-lines.lines.items c.in_ok-lines.ensures.lines c.in_ok-lines.ensures.read_back
    (g.K.Keeper.tables c.args.keeper.now) _ c.as_slice.result.now c.length-count.result c.as_slice.ensures.value counted c.in-Ok.ensures.kept
