-- The task that is found is one of those that are sound.
use Rattle.swarm_model.specs.Finding.{is_task}
use Rattle.swarm_model.specs.Soundness.{IsSoundTask}
use Rattle.dimensions.proofs.Found.{IfSome-find}
use Rattle.pool_rules.proofs.settling.sound_task.Goals as goal

pub returns-clause-sound : goal.returns-clause-sound
returns-clause-sound g c =
    let s = g.P.ReadQueries.state c.args.pool.now in
    rw c.task_of.ensures.value (IfSome-find (IsSoundTask s) (is_task c.args.number) s.tasks c.sound.ensures.tasks)
