use Rattle.std.proofs.Common.{◌≡◌, ◌*◌}
use Rattle.drill_requests.specs.Draws.{value_after}
use Rattle.drill_requests.specs.Requests.{requests}
use Rattle.drill_requests.proofs.input.drill_requests.Given as goal

abbrev pub invariant-loop-done : goal.invariant-loop-done
invariant-loop-done l = (l.requests.items ≡ requests l.start l.done) × (l.draws.value ≡ value_after l.start (3 * l.done))
