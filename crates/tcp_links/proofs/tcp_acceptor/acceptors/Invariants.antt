use Rattle.std.proofs.Common.{◌≡◌, ◌≤◌, length, All}
use Rattle.std.specs.Vec.{vec_capacity}
use Rattle.tcp_links.proofs.tcp_acceptor.acceptors.Given as goal

abbrev pub invariant-workers : goal.invariant-workers
invariant-workers g l = record {
  number : length l.given.items ≡ l.counter;
  fresh : All (λ a. a.faults ≡ 0) l.given.items;
  room : l.workers ≤ vec_capacity l.given;
}
