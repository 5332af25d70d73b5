use Rattle.reply_reader.proofs.ReplyLemmas.{read_both, reply_unique}
use Rattle.reply_reader.proofs.received.receive_reply.Goals as goal

pub returns-in-Ok-Some-clause-receives : goal.returns-in-Ok-Some-clause-receives
returns-in-Ok-Some-clause-receives g c =
    let r = c.in-Ok-Some.ensures in
    let h = rw c.in-Ok-Some.field-0-is at r.outcome in
    read_both (rw c.in-Ok-Some.field-0-is at r.takes) r.short h c.take_body.ensures

pub returns-in_default-clause-unique : goal.returns-in_default-clause-unique
returns-in_default-clause-unique g c = reply_unique

pub returns-in-Ok-Some-clause-unique : goal.returns-in-Ok-Some-clause-unique
returns-in-Ok-Some-clause-unique g c = reply_unique

pub returns-in-Ok-None-clause-unique : goal.returns-in-Ok-None-clause-unique
returns-in-Ok-None-clause-unique g c = reply_unique

pub returns-clause-unique : goal.returns-clause-unique
returns-clause-unique g c = reply_unique
