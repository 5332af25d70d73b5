-- The copy that is shown next has what was pending.
use Rattle.std.proofs.Common.{drop}
use Rattle.left_right.specs.Sides.{view}
use Rattle.swarm_boards.proofs.Rises.{publishes}
use Rattle.swarm_boards.proofs.Posting.{is_published}
use Rattle.swarm_boards.proofs.writer.publish_pending.Goals as goal

pub publish_as-requires : goal.publish_as-requires
publish_as-requires g c next e =
    let w = c.args.writer in
    publishes w.desk.place.id (view w.desk.place) w.desk.shown.value next (drop w.behind w.log.items) c.requires.legal e

pub returns : goal.returns
returns g c =
    let w = c.args.writer in
    let t = c.publish_as.result.0 in
    is_published c.publish_as.result.1 w.desk.shown.value t.desk.shown.value (view w.desk.place) (view t.desk.place) (drop w.behind w.log.items) (drop t.behind t.log.items)
    c.publish_as.ensures.values c.publish_as.ensures.rule
