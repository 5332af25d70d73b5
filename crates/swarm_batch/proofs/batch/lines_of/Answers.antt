use Rattle.std.proofs.Common.{arith}
use Rattle.std.proofs.lemmas.Grind.{common_steps}
use Rattle.swarm_batch.proofs.Marking.{mark_lines_more}
use Rattle.swarm_batch.proofs.batch.lines_of.Goals as goal

pub loop-place-preserved : goal.loop-place-preserved
loop-place-preserved c =
    grind (arith, common_steps, mark_lines_more, c.mark_line.ensures, c.in_ok-mark_line.was, c.in_ok-mark_line.ensures, c.as_str.ensures.value, c.push_str.ensures.bytes, c.loop-place.invariant, c.loop-place-test.true)
