-- Rows whose numbers are one above their places are numbered.
use Rattle.std.proofs.Common.{ap, arith}
use Rattle.swarm_model.proofs.Numbers.{number_at}
use Rattle.base_checks.proofs.Places.{numbered_by_places}
use Rattle.base_checks.proofs.numbers.are_numbered.Goals as goal

pub returns : goal.returns
returns g c =
    let end = c.loop-place-test.false in
    numbered_by_places g.R.Row.no c.args.rows.now c.loop-place.place (omega (arith, end)) c.loop-place.invariant

pub returns-then-no-place : goal.returns-then-no-place
returns-then-no-place g c = λ are.
    let row = c.index-rows-place.result in
    let is = number_at g.R.Row.no 1 c.loop-place.place c.args.rows.now row are c.loop-place-test.true in
    let same = ap g.R.Row.no c.index-rows-place.is in
    let told = c.no.ensures in
    let miss = c.if-no-place.true in
    absurd (omega (arith, is, same, told, miss))
