-- The posters at the places below have a view more.
use Rattle.std.proofs.Common.{◌≡◌, ◌≤◌, length, map, take, vec_len, vec_capacity}
use Rattle.board_workers.specs.Posts.{view_of}
use Rattle.board_workers.proofs.posters.make_views.Given as goal

abbrev pub invariant-loop-place : goal.invariant-loop-place
invariant-loop-place g l = record {
  count : vec_len l.views ≡ l.place;
  room : length l.fn.posters.items ≤ vec_capacity l.views;
  same : map (λ own. own.poster) l.posters.items ≡ map (λ own. own.poster) l.fn.posters.items;
  made : l.views.items ≡ take l.place (map view_of (map (λ own. own.poster) l.fn.posters.items));
}
