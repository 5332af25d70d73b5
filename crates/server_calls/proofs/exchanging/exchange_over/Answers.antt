use Rattle.std.proofs.Common.{◌≡◌, Some, None, [], rules, sym, ◌∙◌, arith}
use Rattle.std.proofs.lemmas.Grind.{common_steps}
use Rattle.server_calls.specs.Reading.{told_of}
use Rattle.server_calls.proofs.ExchangeLemmas.{talks, told_this, told_nothing, no_reply_tells, one_tells_nothing}
use Rattle.server_calls.proofs.exchanging.exchange_over.Goals as goal

pub returns-in-Ok-Some : goal.returns-in-Ok-Some
returns-in-Ok-Some g c =
    let r = c.in-Ok-Reply.ensures.receives in
    let h = rw c.in-Ok-Reply.field-0-is at r.outcome in
    let k = c.send_flushed.ensures.sends in
    let all : k.back ≡ [] = search rules in
    let quiet : (g.L.Link.state c.send_flushed.new.link).write_faults ≡ (g.L.Link.state c.args.link.now).write_faults = search rules in
    let e : told_of c.args.route c.in-Ok-Reply.code c.in-Ok-Reply.body.items ≡ Some c.in-Ok-Some.told = cc (c.deref.ensures.value, c.in-Ok-Some.ensures.tells, c.in-Ok-Some.field-0-is) in
    told_this c.args.route c.in-Ok-Some.told c.in-Ok-Reply.code c.in-Ok-Reply.body.items (talks k.written all quiet r.takes.moves r.takes.output r.takes.faults) h e

pub returns-in-Ok-None : goal.returns-in-Ok-None
returns-in-Ok-None g c =
    let r = c.in-Ok-Reply.ensures.receives in
    let h = rw c.in-Ok-Reply.field-0-is at r.outcome in
    let k = c.send_flushed.ensures.sends in
    let all : k.back ≡ [] = search rules in
    let quiet : (g.L.Link.state c.send_flushed.new.link).write_faults ≡ (g.L.Link.state c.args.link.now).write_faults = search rules in
    let e : told_of c.args.route c.in-Ok-Reply.code c.in-Ok-Reply.body.items ≡ None = cc (c.deref.ensures.value, c.in-Ok-None.ensures.tells, c.in-Ok-None.field-0-is) in
    told_nothing c.args.route (talks k.written all quiet r.takes.moves r.takes.output r.takes.faults)
    (one_tells_nothing c.args.route (g.L.Link.state c.receive_reply.new.link).left r.taken c.in-Ok-Reply.code c.in-Ok-Reply.body.items c.receive_reply.ensures.unique h e)

pub returns-in-Ok-NoReply : goal.returns-in-Ok-NoReply
returns-in-Ok-NoReply g c =
    let r = c.in-Ok-NoReply.ensures.receives in
    let h = rw c.in-Ok-NoReply.field-0-is at r.outcome in
    let k = c.send_flushed.ensures.sends in
    let all : k.back ≡ [] = search rules in
    let quiet : (g.L.Link.state c.send_flushed.new.link).write_faults ≡ (g.L.Link.state c.args.link.now).write_faults = search rules in
    told_nothing c.args.route (talks k.written all quiet r.takes.moves r.takes.output r.takes.faults)
    (no_reply_tells c.args.route (g.L.Link.state c.receive_reply.new.link).left r.taken h.1)

pub returns-in-Ok-Memory : goal.returns-in-Ok-Memory
returns-in-Ok-Memory g c = grind (arith, common_steps)
