-- The poster begins with nothing, and its pass takes a turn for each post.
use Rattle.std.proofs.Common.{◌++◌, ◌∙◌, ap, arith}
use Rattle.shared_doors.specs.declared.view.PoolView.{PoolView}
use Rattle.shared_doors.specs.Views.{view_at, views}
use Rattle.swarm_boards.specs.Posted.{Posted}
use Rattle.test_rows.proofs.boards.playing.play_posted.Goals as goal

pub post-own-requires-clause-turns : goal.post-own-requires-clause-turns
post-own-requires-clause-turns g c = omega (arith, (c.requires.own.new 0 c.requires.some).turns)

pub post-own-requires-clause-prefix : goal.post-own-requires-clause-prefix
post-own-requires-clause-prefix g c =
    let seen = (view_at (views c.args.own.passes.items) 0).seen in
    (seen, ap (λ (p : Posted). p.published ++ p.pending ++ seen) (c.in_ok-board.ensures.same ∙ c.requires.poster))

pub post-posted-requires-clause-turns : goal.post-posted-requires-clause-turns
post-posted-requires-clause-turns g c =
    omega (arith, ap (λ (v : PoolView). v.turns) c.post-own.ensures.turn.turn.rest, (c.requires.own.new 0 c.requires.some).turns)
