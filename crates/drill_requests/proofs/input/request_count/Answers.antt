use Rattle.std.proofs.Common.{◌∙◌, sym, ◌+◌, arith}
use Rattle.drill_requests.proofs.Cycles.{length-requests-none, length-requests-more, value_after-none, value_after-cycle}
use Rattle.drill_requests.proofs.input.request_count.Goals as goal

pub loop-done-init : goal.loop-done-init
loop-done-init c =
    (sym (length-requests-none c.args.start), c.new-draws.ensures ∙ sym (value_after-none c.args.start), omega arith)

pub loop-done-preserved : goal.loop-done-preserved
loop-done-preserved c =
    let found = c.loop-done.invariant.1 in
    let more = length-requests-more c.args.start c.loop-done.done c.loop-done.draws.value found in
    let own = c.cycle_length-count.ensures.count (c.loop-done.done + 1) in (
      omega (arith, more, own),
      c.cycle_length-count.ensures.draws ∙ sym (value_after-cycle c.args.start c.loop-done.done c.loop-done.draws.value found),
      omega arith,
    )
