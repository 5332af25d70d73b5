-- The pools so far are open, and the keepers of the others are left.
use Rattle.std.proofs.Common.{◌≡◌, ◌≤◌, ◌+◌, length, take, vec_len, vec_capacity}
use Rattle.std.specs.Vec.Iter.{into_iter_len}
use Rattle.shared_doors.specs.Machines.{lasting_in, log_in}
use Rattle.shared_doors.specs.Opened.{AreOpened}
use Rattle.shared_doors.proofs.opening.open_all.Given as goal

abbrev pub invariant-loop-pool : goal.invariant-loop-pool
invariant-loop-pool g l = record {
  left : into_iter_len l.rest + l.pool-index ≡ length l.pools;
  turnstiles : vec_len l.turnstiles ≡ l.pool-index;
  passes : vec_len l.passes ≡ l.pool-index;
  turnstiles_room : length l.pools ≤ vec_capacity l.turnstiles;
  passes_room : length l.pools ≤ vec_capacity l.passes;
  opened : AreOpened (lasting_in g.M.Machine.kept) (log_in g.M.Machine.kept) (take l.pool-index l.pools) l.turnstiles.items l.passes.items;
}
