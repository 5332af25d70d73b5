-- One row more is looked at.
use Rattle.swarm_model.specs.Deadlines.{sooner, silence_end}
use Rattle.common_rows.specs.Rows.{state_of}
use Rattle.row_changes.proofs.Folding.{fold-filter_map_more}
use Rattle.swarm_plain.proofs.deadlines.silences_ends.Goals as goal

pub loop-task-preserved : goal.loop-task-preserved
loop-task-preserved c =
    let more = fold-filter_map_more sooner (silence_end (state_of c.args.rows.now)) c.args.best c.args.tasks.now c.loop-task.task-index c.task-item.result c.loop-task-test.true c.task-item.is in
    rw (more, ← c.silence_end.ensures, ← c.loop-task.invariant) c.sooner_of-soonest.ensures
