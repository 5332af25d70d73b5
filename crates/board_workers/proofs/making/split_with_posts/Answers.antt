-- One number more is split off, for the posts.
use Rattle.std.proofs.Common.{arith}
use Rattle.shared_doors.specs.Machines.{lasting_in}
use Rattle.board_workers.proofs.Splitting.{given_share, kept_share, may_split, one_more_made}
use Rattle.board_workers.proofs.making.split_with_posts.Goals as goal

pub split-requires-clause-first : goal.split-requires-clause-first
split-requires-clause-first g c = λ p low. may_split c.args.workers _ (c.in_ok-first.ensures.shares.0.new p low) (c.in_ok-first.ensures.made p low) (omega (arith, c.requires.number))

pub returns-in-Ok-clause-shares : goal.returns-in-Ok-clause-shares
returns-in-Ok-clause-shares g c =
    (kept_share (lasting_in g.M.Machine.kept) c.args.server.now.turnstiles.items _ _ _ c.in_ok-first.ensures.shares.0 c.in-Ok.ensures.kept c.in-Ok.ensures.split, c.in_ok-first.ensures.shares.1)

pub returns-in-Ok-clause-posts : goal.returns-in-Ok-clause-posts
returns-in-Ok-clause-posts g c =
    given_share (lasting_in g.M.Machine.kept) c.args.server.now.turnstiles.items c.args.workers _ _ _ c.in_ok-first.ensures.shares.0 c.in_ok-first.ensures.made c.in-Ok.ensures.given c.in-Ok.ensures.split

pub returns-in-Ok-clause-made : goal.returns-in-Ok-clause-made
returns-in-Ok-clause-made g c =
    one_more_made (lasting_in g.M.Machine.kept) c.args.server.now.turnstiles.items c.args.workers _ _ _ c.in_ok-first.ensures.made c.in-Ok.ensures.split
