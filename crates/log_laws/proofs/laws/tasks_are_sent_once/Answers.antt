-- A row that a caller sent under a uuid keeps both, and no other is accepted under them.
use Rattle.log_laws.proofs.Once.{at_most_once}
use Rattle.log_laws.proofs.Resent.{sent_before, replies_are_told}
use Rattle.log_laws.proofs.laws.tasks_are_sent_once.Goals as goal

pub returns-clause-once : goal.returns-clause-once
returns-clause-once c = λ base log who uuid o caused named. at_most_once who uuid named base log o caused

pub returns-clause-before : goal.returns-clause-before
returns-clause-before c = sent_before

pub returns-clause-told : goal.returns-clause-told
returns-clause-told c = replies_are_told
