-- The first views and acceptors are those of boards, and the others are left.
use Rattle.std.proofs.Common.{◌≡◌, ◌≤◌, ◌+◌, ◌++◌, length, map, vec_len, vec_capacity}
use Rattle.std.specs.Vec.Iter.{into_iter_items, into_iter_len}
use Rattle.board_workers.proofs.making.make_boards.Given as goal

abbrev pub invariant-loop-views : goal.invariant-loop-views
invariant-loop-views g l = record {
  left : into_iter_len l.rest ≡ length (into_iter_items l.rest);
  acceptors_left : into_iter_len l.acceptors ≡ length (into_iter_items l.acceptors);
  count : into_iter_len l.acceptors ≡ into_iter_len l.rest;
  room : vec_len l.boards + into_iter_len l.rest ≤ vec_capacity l.boards;
  views : map (λ b. b.views) l.boards.items ++ into_iter_items l.rest ≡ l.fn.views.items;
  acceptors : map (λ b. b.acceptor) l.boards.items ++ into_iter_items l.acceptors ≡ l.fn.acceptors.items;
}

abbrev pub decreases-loop-views : goal.decreases-loop-views
decreases-loop-views g l = into_iter_len l.rest
