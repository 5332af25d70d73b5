use Rattle.std.proofs.Common.{◌∙◌, Some, ap, sym, subst}
use Rattle.swarm_http.specs.Endings.{IsRefused}
use Rattle.swarm_http.proofs.Requests.{says_head, refused_here, none_refused, cause_refused, limit_is}
use Rattle.swarm_http.proofs.request.take_head.Goals as goal

pub refusal_of-requires : goal.refusal_of-requires
refusal_of-requires g c = λ limit is. let j = c.in-Refused.ensures in limit_is j.head limit (j.due.0 ∙ ap Some is)

pub take_body-requires-clause-says : goal.take_body-requires-clause-says
take_body-requires-clause-says g c =
    let j = c.in-Good.ensures in
    let k = rw c.front.ensures at j in
    (k.head, says_head c.requires.short c.requires.end k.head k.is_head k.due.0, k.due.1.size, c.request_line_of-line.ensures k.head k.due.1)

pub returns-in-NoHead : goal.returns-in-NoHead
returns-in-NoHead g c =
    let j = c.in-NoHead.ensures in
    let k = rw c.front.ensures at j in
    refused_here (none_refused c.args.pending.now c.args.n c.requires.end k)

pub returns-in-Refused : goal.returns-in-Refused
returns-in-Refused g c =
    let j = c.in-Refused.ensures in
    let k = rw c.front.ensures at j in
    refused_here (subst (IsRefused c.args.pending.now (Some c.in-Refused.method)) (sym c.refusal_of.ensures) (cause_refused c.args.pending.now c.args.n c.requires.end k))
