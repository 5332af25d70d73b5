-- So many rounds were posted.
use Rattle.std.proofs.Common.{length, map}
use Rattle.shared_doors.specs.Machines.{lasting_in}
use Rattle.shared_doors.specs.Views.{views}
use Rattle.board_workers.specs.Posts.{EachReads, MayPost}
use Rattle.board_workers.proofs.rounds.run_rounds.Given as goal

abbrev pub invariant-loop-round : goal.invariant-loop-round
invariant-loop-round g l = record {
  may : MayPost (lasting_in g.M.Machine.kept) l.server.turnstiles.items l._round (map (λ own. own.poster) l.posters.items) l.passes.passes.items;
  reads : EachReads (length l.server.turnstiles.items) (views l.fn.passes.passes.items) (views l.passes.passes.items);
}
