use Rattle.std.proofs.Common.{arith, refl}
use Rattle.client_commands.proofs.Batching.{all_collected, collected_end, collected_on}
use Rattle.client_commands.proofs.Following.{through}
use Rattle.client_commands.proofs.batch_collecting.collect_lines.Goals as goal

pub loop-place-init : goal.loop-place-init
loop-place-init g c = λ files v status f. f

pub loop-place-preserved : goal.loop-place-preserved
loop-place-preserved g c = λ files.
    through (c.loop-place.invariant files) (collected_on c.args.polls c.args.every c.loop-place.place c.args.marks.now _ _ c.loop-place-test.true refl (λ next. c.in-Ok.ensures files next))

pub returns-in-Err : goal.returns-in-Err
returns-in-Err g c = λ files.
    c.loop-place.invariant files _ _ (collected_end c.args.polls c.args.every c.loop-place.place c.args.marks.now _ _ c.loop-place-test.true refl (λ next. c.in-Err.ensures files next))

pub returns : goal.returns
returns g c = λ files. c.loop-place.invariant files _ _ (all_collected c.args.polls c.args.every c.loop-place.place _ c.args.marks.now (omega (arith, c.loop-place-test.false)))
