-- What a request means, as far as it was looked at.
use Rattle.std.proofs.Common.{◌≡◌, ℕ, List, arith, refl, ap, ◌∙◌, Option, Some, None, Result, Ok, Err, subst}
use Rattle.httparse.specs.Grammar.{RequestHead}
use Rattle.request_head.specs.HeadFields.{method_of, caller_of, after_of}
use Rattle.swarm_http.specs.Types.{Settings, Rule, Route, Asked, Parts, Answered, CallFault, After}
use Rattle.swarm_model.specs.declared.rule.Rule.TheVariants as rule
use Rattle.routes.specs.Routes.{resource_of}
use Rattle.swarm_wire.specs.Asking.{asked_of}
use Rattle.pool_doors.specs.Doors.{Logs, DoorState, Elsewhere, IsPoolCall, Writer}
use Rattle.std.specs.Prelude.{IsSomeAnd, slice_get}
use Rattle.swarm_http.specs.declared.reply.ReplyBytes.{ReplyBytes}
use Rattle.swarm_http.specs.declared.served_calls.ServedCalls.{ServedCalls}
use Rattle.swarm_http.specs.Permissions.{permitted}
use Rattle.swarm_http.specs.Requests.{CallerRequest, and_then, among, request_among, routed, with_front, caller_request_of, permitted_request, request_of, parts_of, front_of}
use Rattle.swarm_http.specs.Outcomes.{DoorCall, called_place, call_of, rejected, no_body_memory, IsCalled}
use Rattle.swarm_http.specs.Sends.{status_in, shown_in}
use Rattle.swarm_http.specs.Steps.{Answers, IsRejection, by_rule, by_memory}
use Rattle.swarm_http.proofs.DoorServing.{HandsIn-nil}

-- no route has the target, or not with this method
pub route_refused : (serves : ServedCalls) (settings : Settings) (head : RequestHead) (body : List ℕ) (why : Rule) → routed (among serves (resource_of head.target)) (method_of head) ≡ Err why
    → request_among serves settings head body ≡ Err why
route_refused serves settings head body why e = rw e refl

pub no_caller : (serves : ServedCalls) (settings : Settings) (head : RequestHead) (body : List ℕ) (route : Route) → routed (among serves (resource_of head.target)) (method_of head) ≡ Ok route
    → caller_of head ≡ None → request_among serves settings head body ≡ Err rule.NoCaller
no_caller serves settings head body route e c = rw (e, c) refl

-- the target and the body are what is left to look at
pub body_left : (serves : ServedCalls) (settings : Settings) (head : RequestHead) (body : List ℕ) (route : Route) (who : List ℕ)
    → routed (among serves (resource_of head.target)) (method_of head) ≡ Ok route → caller_of head ≡ Some who
    → request_among serves settings head body ≡ and_then (with_front (after_of head) (asked_of settings route (parts_of head.target) body)) (permitted_request settings who)
body_left serves settings head body route who e c = rw (e, c) refl

-- a target and a body that ask something
pub body_asks : (serves : ServedCalls) (settings : Settings) (head : RequestHead) (body items : List ℕ) (route : Route) (parts : Parts) (who : List ℕ) (after : After) (asked : Asked)
    → routed (among serves (resource_of head.target)) (method_of head) ≡ Ok route → caller_of head ≡ Some who → after ≡ after_of head → parts ≡ parts_of head.target → items ≡ body
    → with_front after (asked_of settings route parts items) ≡ Ok asked → request_among serves settings head body ≡ permitted_request settings who asked
body_asks serves settings head body items route parts who after asked e c same named is asks =
    body_left serves settings head body route who e c ∙ ap (λ (r : Result Asked Rule). and_then r (permitted_request settings who)) (rw (same, named, is) at asks)

-- a request that its pool permits
pub asks_permitted : (settings : Settings) (who : List ℕ) (asked : Asked) → permitted settings who asked ≡ Ok asked → permitted_request settings who asked ≡ caller_request_of who asked
asks_permitted settings who asked e = ap (λ (r : Result Asked Rule). and_then r (caller_request_of who)) e

-- a refusal of what was left to look at
pub left_refused : (shown : ReplyBytes) (left : Result Asked Rule) (next : Asked → Result CallerRequest Rule) {whole : Result CallerRequest Rule} → whole ≡ and_then left next → IsRejection shown left
    → IsRejection shown whole
left_refused shown left next means (by_rule why e status text) = by_rule why (means ∙ ap (λ (r : Result Asked Rule). and_then r next) e) status text
left_refused shown left next means (by_memory status text) = by_memory status text

-- a request that was refused before any call
pub not_called : (settings : Settings) (head : RequestHead) (body : List ℕ) (a : ℕ → Option (List ℕ)) (door : DoorState) (shown : ReplyBytes) → door.settings ≡ settings
    → IsRejection shown (request_of settings head body) → Answers head body (status_in shown) (shown_in shown) a a door door
not_called settings head body a door shown same (by_rule why e status text) =
    record { outcome = rejected why; acts = (rw same e, refl); moments = HandsIn-nil a; keeper = omega arith; status_is = status; shown_is = text }
not_called settings head body a door shown same (by_memory status text) =
    record { outcome = no_body_memory; acts = refl; moments = HandsIn-nil a; keeper = omega arith; status_is = status; shown_is = text }

-- the pool of a request was called for it
pub is_called : (settings : Settings) (writer : Writer) (head : RequestHead) (body : List ℕ) (call : DoorCall) (front : Option ℕ) (result : Result Answered CallFault) (old new : Logs)
    → front ≡ front_of (after_of head) → request_of settings head body ≡ Ok call.asks
    → IsSomeAnd (slice_get settings.pools (called_place call))
    (λ pool. IsPoolCall (writer.starts (called_place call)) writer.alone (record (call_of writer head call) { after = front }) (old (called_place call)) (new (called_place call)) call.growth result)
    → Elsewhere (called_place call) old new → IsCalled settings writer head body call result old new
is_called settings writer head body call front result old new seen means done elsewhere = record {
  means = means;
  done = subst (λ (f : Option ℕ). IsSomeAnd (slice_get settings.pools (called_place call))
      (λ pool. IsPoolCall (writer.starts (called_place call)) writer.alone (record (call_of writer head call) { after = f }) (old (called_place call)) (new (called_place call)) call.growth result))
      seen done;
  elsewhere = elsewhere;
}
