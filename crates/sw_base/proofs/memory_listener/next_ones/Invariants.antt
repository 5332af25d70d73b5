use Rattle.std.proofs.Common.{◌≤◌}
use Rattle.std.specs.Vec.{vec_capacity}
use Rattle.sw_base.specs.Listeners.{IsTaken}
use Rattle.sw_base.proofs.memory_listener.next_ones.Given as goal

abbrev pub invariant-numbers : goal.invariant-numbers
invariant-numbers g l = record {
  taken : IsTaken g.A.Acceptor.state l.fn.waiting.items l.waiting.items l.counter l.given.items;
  room : l.number ≤ vec_capacity l.given;
}
