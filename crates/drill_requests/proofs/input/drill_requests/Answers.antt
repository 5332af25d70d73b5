use Rattle.std.proofs.Common.{ap, ◌∙◌, sym, ◌+◌, ◌++◌, List}
use Rattle.drill_requests.specs.declared.request.DrillRequest.{DrillRequest}
use Rattle.drill_requests.specs.Requests.{cycle_from}
use Rattle.drill_requests.proofs.Cycles.{requests-none, requests-more, value_after-none, value_after-cycle}
use Rattle.drill_requests.proofs.input.drill_requests.Goals as goal

pub loop-done-init : goal.loop-done-init
loop-done-init c = (
  c.in_ok-requests.ensures ∙ sym (requests-none c.args.start),
  c.new-draws.ensures ∙ sym (value_after-none c.args.start),
)

pub loop-done-preserved : goal.loop-done-preserved
loop-done-preserved c =
    let found = c.loop-done.invariant.1 in
    let own = λ (before : List DrillRequest). before ++ cycle_from (c.loop-done.done + 1) c.loop-done.draws.value in (
      c.in_ok-push_cycle.ensures.requests
          ∙ ap own c.loop-done.invariant.0
          ∙ sym (requests-more c.args.start c.loop-done.done c.loop-done.draws.value found),
      c.in_ok-push_cycle.ensures.draws ∙ sym (value_after-cycle c.args.start c.loop-done.done c.loop-done.draws.value found),
    )
