use Rattle.index_laws.proofs.DeadlinesFollow.{bot_deadlines_follow}
use Rattle.index_laws.proofs.deadlines.bot_deadlines_follow.Goals as goal

pub returns : goal.returns
returns c = bot_deadlines_follow
