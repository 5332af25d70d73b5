use Rattle.swarm_batch.proofs.Tasks.{naming_keeps_the_task, named_task_has_uuid}
use Rattle.swarm_batch.proofs.laws.naming_keeps_the_task.Goals as goal

pub returns-clause-task : goal.returns-clause-task
returns-clause-task c = naming_keeps_the_task

pub returns-clause-uuid : goal.returns-clause-uuid
returns-clause-uuid c = named_task_has_uuid
