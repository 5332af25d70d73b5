-- The worker and the poster have new passes.
use Rattle.shared_doors.specs.Machines.{lasting_in}
use Rattle.shared_doors.specs.Views.{view_at, views}
use Rattle.swarm_workers.proofs.NewDoors.{first_share, new_share, split_first}
use Rattle.test_rows.proofs.boards.playing.play.Goals as goal

pub play_posted-played-requires-clause-worker : goal.play_posted-played-requires-clause-worker
play_posted-played-requires-clause-worker g c =
    let first = c.in_ok-server.passes.passes.items in
    let kept = c.in-Ok.worker.passes.items in
    let given = c.in-Ok.own.passes.items in
    first_share (lasting_in g.M.Machine.kept) c.in_ok-server.server.turnstiles.items 2 kept
    (λ p low. split_first 1 (view_at (views first) p) (view_at (views kept) p) (view_at (views given) p) (c.in_ok-server.ensures.fresh p low) (c.in-Ok.ensures.split p low))
    c.in-Ok.ensures.kept

pub play_posted-played-requires-clause-own : goal.play_posted-played-requires-clause-own
play_posted-played-requires-clause-own g c =
    new_share (lasting_in g.M.Machine.kept) c.in_ok-server.server.turnstiles.items 1 c.in_ok-server.passes.passes.items c.in-Ok.worker.passes.items c.in-Ok.own.passes.items
    c.in_ok-server.ensures.fresh c.in-Ok.ensures.split c.in-Ok.ensures.given
