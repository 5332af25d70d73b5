use Rattle.index_laws.proofs.QueuesFollow.{queues_follow}
use Rattle.index_laws.proofs.queues.queues_follow.Goals as goal

pub returns : goal.returns
returns c = queues_follow
