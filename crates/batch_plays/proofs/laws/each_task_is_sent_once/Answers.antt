use Rattle.batch_plays.proofs.Sent.{each_once}
use Rattle.batch_plays.proofs.laws.each_task_is_sent_once.Goals as goal

pub returns : goal.returns
returns c = each_once
