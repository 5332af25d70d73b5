-- So many boards have their views.
use Rattle.std.proofs.Common.{◌≡◌, ◌≤◌, map, vec_len, vec_capacity}
use Rattle.std.specs.List.{All}
use Rattle.board_workers.specs.Posts.{view_of}
use Rattle.swarm_boards.specs.contracts.board_views.BoardViewsViews.TheImpl.{ghosts}
use Rattle.board_workers.proofs.posters.make_all_views.Given as goal

abbrev pub invariant-loop-number : goal.invariant-loop-number
invariant-loop-number g l = record {
  count : vec_len l.all ≡ l._number;
  room : l.boards ≤ vec_capacity l.all;
  same : map (λ own. own.poster) l.posters.items ≡ map (λ own. own.poster) l.fn.posters.items;
  made : All (λ views. ghosts.known views ≡ map view_of (map (λ own. own.poster) l.fn.posters.items)) l.all.items;
}
