-- The entries below the place are copied.
use Rattle.std.proofs.Common.{◌≡◌, ◌≤◌, take, drop, vec_len, vec_capacity}
use Rattle.shared_doors.proofs.copying.copy_log.Given as goal

abbrev pub invariant-loop-place : goal.invariant-loop-place
invariant-loop-place g l = record {
  copied : l.entries.items ≡ take l.place (drop l.from (g.M.Machine.kept l.machine).log);
  count : vec_len l.entries ≡ l.place;
  room : l.count ≤ vec_capacity l.entries;
}
