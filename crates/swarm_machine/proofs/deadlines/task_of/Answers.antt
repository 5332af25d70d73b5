-- The task that is found is one of them.
use Rattle.dimensions.proofs.Found.{IfSome-find}
use Rattle.swarm_model.specs.Finding.{is_task}
use Rattle.row_changes.specs.Rows.{IsEarly}
use Rattle.common_rows.specs.Rows.{state_of}
use Rattle.pool_log.proofs.RowFacts.{all_early}
use Rattle.swarm_machine.proofs.deadlines.task_of.Goals as goal

pub returns-clause-early : goal.returns-clause-early
returns-clause-early c = rw c.uncounted_row.ensures (IfSome-find IsEarly (is_task c.args.number) c.args.rows.now.tasks.rows (all_early (state_of c.args.rows.now) c.requires))
