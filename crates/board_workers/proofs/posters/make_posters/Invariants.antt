-- The pools at the places below have a poster.
use Rattle.std.proofs.Common.{◌≡◌, ◌≤◌, length, map, take, vec_len, vec_capacity}
use Rattle.shared_doors.specs.Machines.{lasting_in}
use Rattle.shared_doors.specs.SharedDoors.{pools_of}
use Rattle.board_workers.specs.Posts.{new_posters}
use Rattle.board_workers.proofs.posters.make_posters.Given as goal

abbrev pub invariant-loop-place : goal.invariant-loop-place
invariant-loop-place g l = record {
  count : vec_len l.posters ≡ l.place;
  room : length l.server.turnstiles.items ≤ vec_capacity l.posters;
  made : map (λ own. own.poster) l.posters.items ≡ take l.place (new_posters (pools_of (lasting_in g.M.Machine.kept) l.server.turnstiles.items));
}
