-- One row more is looked at.
use Rattle.std.proofs.Common.{None}
use Rattle.swarm_model.specs.Deadlines.{sooner, slice_end}
use Rattle.row_changes.proofs.Folding.{fold-filter_map_more}
use Rattle.swarm_plain.proofs.deadlines.slices_ends.Goals as goal

pub loop-task-preserved : goal.loop-task-preserved
loop-task-preserved c =
    let more = fold-filter_map_more sooner slice_end None c.args.tasks.now c.loop-task.task-index c.task-item.result c.loop-task-test.true c.task-item.is in
    rw (more, ← c.slice_end.ensures, ← c.loop-task.invariant) c.sooner_of-soonest.ensures
