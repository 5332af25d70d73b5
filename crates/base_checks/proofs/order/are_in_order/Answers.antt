-- Two out of order stand side by side.
use Rattle.std.proofs.Common.{arith}
use Rattle.base_checks.specs.Rows.{NoLater}
use Rattle.base_checks.proofs.Pairs.{chained}
use Rattle.base_checks.proofs.order.are_in_order.Goals as goal

pub returns : goal.returns
returns c =
    chained NoLater (λ a b d first last. omega (arith, first, last)) c.args.tasks.now (λ k d low. let end = c.loop-place-test.false in c.loop-place.invariant k d (omega (arith, low, end)))
