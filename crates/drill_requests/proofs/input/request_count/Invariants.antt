use Rattle.std.proofs.Common.{◌≡◌, ◌+◌, ◌*◌, ◌≤◌, length}
use Rattle.drill_requests.specs.Draws.{value_after}
use Rattle.drill_requests.specs.Requests.{requests}
use Rattle.drill_requests.proofs.input.request_count.Given as goal

abbrev pub invariant-loop-done : goal.invariant-loop-done
invariant-loop-done l = (l.count ≡ length (requests l.start l.done)) × (l.draws.value ≡ value_after l.start (3 * l.done)) × (l.count ≤ 8 + 4 * l.done)
