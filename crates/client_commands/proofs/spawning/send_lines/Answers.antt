use Rattle.std.proofs.Common.{arith, sym, ◌-◌}
use Rattle.client_commands.specs.Batches.{lines_left}
use Rattle.client_commands.proofs.Batching.{next_is, sent_end, sent_on}
use Rattle.client_commands.proofs.Following.{through}
use Rattle.client_commands.proofs.spawning.send_lines.Goals as goal

pub lines-init : goal.lines-init
lines-init g c = λ waited v status f. f

pub lines-preserved : goal.lines-preserved
lines-preserved g c = λ waited.
    through (c.lines.invariant waited) (sent_on c.args.done.now c.lines.batch c.in-Some.line (lines_left c.lines.batch) (lines_left c.send_line.new.batch) (omega (arith, c.in-Ok.ensures.left))
    (next_is c.lines.batch c.in-Some.line (sym c.in-Some.ensures)).1 (λ next. c.in-Ok.ensures.follows waited next))

pub returns-in-Err : goal.returns-in-Err
returns-in-Err g c = λ waited.
    c.lines.invariant waited _ _ (sent_end c.args.done.now c.lines.batch c.in-Some.line (lines_left c.lines.batch) (lines_left c.lines.batch - 1) (omega (arith, (next_is c.lines.batch c.in-Some.line (sym c.in-Some.ensures)).0))
    (next_is c.lines.batch c.in-Some.line (sym c.in-Some.ensures)).1 (λ next. c.in-Err.ensures.follows waited next))
