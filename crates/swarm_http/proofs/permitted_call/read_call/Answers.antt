use Rattle.std.proofs.Common.{◌≡◌, refl, ◌∙◌}
use Rattle.request_head.specs.HeadFields.{after_of}
use Rattle.swarm_model.specs.declared.rule.Rule.TheVariants as rule
use Rattle.swarm_http.specs.Permissions.{permitted}
use Rattle.swarm_http.specs.Requests.{parts_of, with_front, caller_request_of, permitted_request}
use Rattle.swarm_http.specs.Sends.{rule_of}
use Rattle.swarm_http.specs.Steps.{by_rule}
use Rattle.swarm_wire.specs.Asking.{asked_of}
use Rattle.swarm_http.proofs.Asking.{route_refused, no_caller, body_left, body_asks, asks_permitted, left_refused}
use Rattle.swarm_http.proofs.BoardCalls.{board_reads}
use Rattle.swarm_http.proofs.Pools.{place_within}
use Rattle.swarm_http.proofs.permitted_call.read_call.Goals as goal

pub returns-in-Err-clause-refused : goal.returns-in-Err-clause-refused
returns-in-Err-clause-refused c = λ body head held.
    by_rule (rule_of c.in-Err.why)
    (route_refused c.args.serves c.args.settings.now head body (rule_of c.in-Err.why) (rw (c.among.ensures, held.line.resource, held.line.method) at c.in-Err.ensures.refused)) refl refl

pub returns-in-Unnamed-clause-refused : goal.returns-in-Unnamed-clause-refused
returns-in-Unnamed-clause-refused c = λ body head held.
    by_rule rule.NoCaller
    (no_caller c.args.serves c.args.settings.now head body c.in-Ok.route (rw (c.among.ensures, held.line.resource, held.line.method) at c.in-Ok.ensures.route) (rw c.in-Unnamed.is at held.line.who)) refl refl

pub check_permission-requires : goal.check_permission-requires
check_permission-requires c = record { place = place_within c.args.settings.now c.in-Ok-read_asked.asked c.in-Ok-read_asked.ensures.fits }

pub returns-in-Ok-check_permission-clause-asks : goal.returns-in-Ok-check_permission-clause-asks
returns-in-Ok-check_permission-clause-asks c = λ body head held.
    body_asks c.args.serves c.args.settings.now head body c.in-Some-Some.body.items c.in-Ok.route c.in-Some-Some.parts c.in-Named.who c.args.received.line.after c.in-Ok-read_asked.asked
    (rw (c.among.ensures, held.line.resource, held.line.method) at c.in-Ok.ensures.route) (rw c.in-Named.is at held.line.who) held.line.after (rw c.in-Some-Some.is-0 at held.line.parts)
    (rw c.in-Some-Some.is-1 at held.body_is) c.in-Ok-read_asked.ensures.asks
    ∙ asks_permitted c.args.settings.now c.in-Named.who c.in-Ok-read_asked.asked c.in-Ok-check_permission.ensures.permitted

pub returns-in-Ok-check_permission-clause-reads : goal.returns-in-Ok-check_permission-clause-reads
returns-in-Ok-check_permission-clause-reads c = λ boards.
    board_reads c.args.settings.now c.args.received.line.resource c.args.received.line.method c.in-Ok.route c.in-Some-Some.parts c.args.received.line.after c.in-Some-Some.body.items
    c.in-Ok-read_asked.asked (rw (c.among.ensures, boards) at c.in-Ok.ensures.route) c.in-Ok-read_asked.ensures.asks

pub returns-in-Err-check_permission-clause-refused : goal.returns-in-Err-check_permission-clause-refused
returns-in-Err-check_permission-clause-refused c = λ body head held.
    left_refused c.in-Err-check_permission.denied (permitted c.args.settings.now c.in-Named.who c.in-Ok-read_asked.asked) (caller_request_of c.in-Named.who)
    (body_asks c.args.serves c.args.settings.now head body c.in-Some-Some.body.items c.in-Ok.route c.in-Some-Some.parts c.in-Named.who c.args.received.line.after c.in-Ok-read_asked.asked
    (rw (c.among.ensures, held.line.resource, held.line.method) at c.in-Ok.ensures.route) (rw c.in-Named.is at held.line.who) held.line.after (rw c.in-Some-Some.is-0 at held.line.parts)
    (rw c.in-Some-Some.is-1 at held.body_is) c.in-Ok-read_asked.ensures.asks)
    c.in-Err-check_permission.ensures.denied

pub returns-in-Err-read_asked-clause-refused : goal.returns-in-Err-read_asked-clause-refused
returns-in-Err-read_asked-clause-refused c = λ body head held.
    let named : c.in-Some-Some.parts ≡ parts_of head.target = rw c.in-Some-Some.is-0 at held.line.parts in
    let is : c.in-Some-Some.body.items ≡ body = rw c.in-Some-Some.is-1 at held.body_is in
    left_refused c.in-Err-read_asked.shown (with_front (after_of head) (asked_of c.args.settings.now c.in-Ok.route (parts_of head.target) body)) (permitted_request c.args.settings.now c.in-Named.who)
    (body_left c.args.serves c.args.settings.now head body c.in-Ok.route c.in-Named.who (rw (c.among.ensures, held.line.resource, held.line.method) at c.in-Ok.ensures.route) (rw c.in-Named.is at held.line.who))
    (rw (held.line.after, named, is) at c.in-Err-read_asked.ensures.refused)
