-- The runs of a task are those that the base and the log tell.
use Rattle.std.proofs.Common.{Option, IfSome, sym, ap, subst, ◌∙◌}
use Rattle.swarm_model.specs.declared.task_row.TaskRow.{TaskRow}
use Rattle.swarm_model.specs.Before.{HasRightRunsSince}
use Rattle.swarm_model.specs.Finding.{task_of}
use Rattle.pool_laws.proofs.MachineLaws.{right_runs}
use Rattle.pool_log.specs.Plain.{KeptPool, machine_of}
use Rattle.pool_log.proofs.Logs.{history_of}
use Rattle.pool_log.proofs.logged_pool.LoggedPoolMachine.task.Goals as goal

pub returns-clause-runs : goal.returns-clause-runs
returns-clause-runs g c =
    let own = c.args.self.now in
    let kept = machine_of own in
    subst (λ (r : Option TaskRow). IfSome r (HasRightRunsSince kept.start.rows kept.pool kept.log))
    (sym (c.task_of.ensures.value ∙ ap (λ (kept : KeptPool). task_of kept.pool c.args.no) c.self.view_is))
    (right_runs kept (history_of _ own c.self.view_is c.self.invariant.replay_of) c.args.no)
