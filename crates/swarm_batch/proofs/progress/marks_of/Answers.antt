use Rattle.std.proofs.Common.{◌≡◌, ◌+◌, ℕ, length, sym, ap, ◌∙◌, subst, arith}
use Rattle.swarm_batch.specs.Progress.{GoesWrong}
use Rattle.swarm_batch.proofs.Opening.{is_nil}
use Rattle.swarm_batch.proofs.Walking.{stops, goes_on, walked, stops_behind, ends_well}
use Rattle.swarm_batch.proofs.progress.marks_of.Goals as goal

pub add_mark-requires-clause-few : goal.add_mark-requires-clause-few
add_mark-requires-clause-few c = c.loop-text.invariant.0.few

pub returns-in-Err : goal.returns-in-Err
returns-in-Err c = λ body is.
    stops c.args.most body c.args.cut.now c.loop-text.marks c.add_mark.new.marks c.loop-text.text-index c.as_slice-text-items.result.now c.as_slice.result.now c.text-item.result c.in-Err.fault
    c.requires is c.loop-text.invariant.0 c.loop-text.invariant.1 c.as_slice-text-items.ensures c.as_slice.ensures c.text-item.is c.loop-text-test.true c.in-Err.ensures

pub loop-text-preserved : goal.loop-text-preserved
loop-text-preserved c =
    goes_on c.args.most c.args.cut.now c.loop-text.marks c.add_mark.new.marks c.loop-text.text-index c.as_slice-text-items.result.now c.as_slice.result.now c.text-item.result
    c.loop-text.invariant.0 c.loop-text.invariant.1 c.as_slice-text-items.ensures c.as_slice.ensures c.text-item.is c.loop-text-test.true c.in-Ok.ensures

pub returns-then-is_empty : goal.returns-then-is_empty
returns-then-is_empty c = λ body is.
    let empty : length c.as_slice-2.result.now ≡ 0 = grind (arith, c.is_empty.ensures, c.if-is_empty.true) in
    ends_well c.args.most body c.args.cut.now c.loop-text.marks is c.loop-text.invariant.0
    (walked c.loop-text.marks c.args.cut.now c.as_slice-text-items.result.now c.loop-text.text-index c.as_slice-text-items.ensures c.loop-text.auto.text-index-end c.loop-text-test.false c.loop-text.invariant.1)
    (sym c.as_slice-2.ensures ∙ is_nil c.as_slice-2.result.now empty)

pub returns-else-is_empty : goal.returns-else-is_empty
returns-else-is_empty c = λ body is.
    subst (λ (n : ℕ). GoesWrong c.args.most body (n + 1)) (sym (ap length c.as_slice-else-is_empty.ensures))
    (stops_behind c.args.most body c.args.cut.now c.loop-text.marks is c.loop-text.invariant.0
    (walked c.loop-text.marks c.args.cut.now c.as_slice-text-items.result.now c.loop-text.text-index c.as_slice-text-items.ensures c.loop-text.auto.text-index-end c.loop-text-test.false c.loop-text.invariant.1)
    (λ e. let none : length c.as_slice-2.result.now ≡ 0 = ap length (c.as_slice-2.ensures ∙ e) in absurd (grind (arith, none, c.is_empty.ensures, c.if-is_empty.false))))
