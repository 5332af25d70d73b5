-- Passes for the numbers so far are split off.
use Rattle.std.proofs.Common.{◌≡◌, ◌<◌, ◌≤◌, ◌+◌, ℕ, length, map, vec_len, vec_capacity}
use Rattle.shared_doors.specs.Machines.{lasting_in}
use Rattle.shared_doors.specs.Views.{AreOf, view_at, views}
use Rattle.swarm_workers.specs.Splits.{AreShares}
use Rattle.swarm_workers.proofs.NewDoors.{first_of}
use Rattle.swarm_workers.proofs.making.split_all.Given as goal

abbrev pub invariant-loop-number : goal.invariant-loop-number
invariant-loop-number g l = record {
  own : AreOf (lasting_in g.M.Machine.kept) l.server.turnstiles.items l.first.passes.items;
  count : vec_len l.others + 1 ≡ l.number;
  room : l.workers ≤ vec_capacity l.others;
  first : (p : ℕ) → p < length l.server.turnstiles.items → view_at (views l.first.passes.items) p ≡ first_of l.number;
  shares : AreShares (lasting_in g.M.Machine.kept) l.server.turnstiles.items 1 (map (λ s. s.passes.items) l.others.items);
}
