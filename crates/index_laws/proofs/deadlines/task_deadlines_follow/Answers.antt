use Rattle.index_laws.proofs.DeadlinesFollow.{task_deadlines_follow}
use Rattle.index_laws.proofs.deadlines.task_deadlines_follow.Goals as goal

pub returns : goal.returns
returns c = task_deadlines_follow
