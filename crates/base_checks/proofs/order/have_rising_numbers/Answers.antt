-- Two that do not rise stand side by side.
use Rattle.std.proofs.Common.{arith}
use Rattle.base_checks.specs.Rows.{HasLowerNumber}
use Rattle.base_checks.proofs.Pairs.{chained}
use Rattle.base_checks.proofs.order.have_rising_numbers.Goals as goal

pub returns : goal.returns
returns c =
    chained HasLowerNumber (λ a b d first last. omega (arith, first, last)) c.args.blobs.now (λ k d low. let end = c.loop-place-test.false in c.loop-place.invariant k d (omega (arith, low, end)))
