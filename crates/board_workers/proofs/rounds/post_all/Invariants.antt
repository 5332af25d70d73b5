-- The pools at the places below are posted.
use Rattle.std.proofs.Common.{ℕ, ◌<◌, ◌^◌, length, map}
use Rattle.shared_doors.specs.Machines.{lasting_in}
use Rattle.shared_doors.specs.Views.{views}
use Rattle.board_workers.specs.Posts.{EachReads, MayPost}
use Rattle.board_workers.proofs.Following.{IsPosting}
use Rattle.board_workers.proofs.rounds.post_all.Given as goal

abbrev pub invariant-loop-place : goal.invariant-loop-place
invariant-loop-place g l = record {
  posting : (turns : ℕ) → turns < 2 ^ 40 → MayPost (lasting_in g.M.Machine.kept) l.server.turnstiles.items turns (map (λ own. own.poster) l.fn.posters.items) l.fn.passes.passes.items
      → IsPosting (lasting_in g.M.Machine.kept) l.server.turnstiles.items l.place turns (map (λ own. own.poster) l.posters.items) l.passes.passes.items;
  reads : EachReads (length l.server.turnstiles.items) (views l.fn.passes.passes.items) (views l.passes.passes.items);
}
