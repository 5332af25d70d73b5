-- What a request asks, or why it is refused before any pool is asked.
use Rattle.std.specs.Prelude.{ℕ, Bool, true, false, if◌then◌else◌, List, Option, Some, None, Result, Ok, Err, codes}
use Rattle.httparse.specs.Grammar.{RequestHead}
use Rattle.swarm_http.specs.Types.{Method, Get, Head, Post, Put, Other, After, Absent, Front, Broken, Settings, Rule, Resource, Call, Blob, Route, Asked, Parts, WireFault}
use Rattle.request_head.specs.HeadFields.{method_of, caller_of, after_of}
use Rattle.task_props.specs.declared.prop_rule.PropRule.TheVariants.{Grammar}
use Rattle.swarm_model.specs.declared.rule.Rule.TheVariants as rule
use Rattle.routes.specs.declared.route.Route.TheVariants as route
use Rattle.routes.specs.Routes.{resource_of, pool_part, digest_part}
use Rattle.swarm_wire.specs.declared.asked.WireFault.TheVariants as fault
use Rattle.swarm_wire.specs.Asking.{asked_of}
use Rattle.swarm_http.specs.declared.served_calls.ServedCalls.{ServedCalls}
use Rattle.swarm_http.specs.declared.served_calls.ServedCalls.TheVariants.{All, Boards}
use Rattle.swarm_http.specs.Permissions.{permitted}

-- the value, and what follows from it
abbrev pub and_then : {A B : Type 0} → Result A Rule → (A → Result B Rule) → Result B Rule
and_then (Ok value) next = next value
and_then (Err why) next = Err why

-- the route of what stands at the target, by its method: a call is a POST, and a blob is put by PUT and fetched by GET
abbrev pub routed : Option Resource → Method → Result Route Rule
routed None method = Err rule.NoRoute
routed (Some (Call call)) Post = Ok call
routed (Some (Call call)) Get = Err rule.BadMethod
routed (Some (Call call)) Head = Err rule.BadMethod
routed (Some (Call call)) Put = Err rule.BadMethod
routed (Some (Call call)) Other = Err rule.BadMethod
routed (Some Blob) Post = Err rule.BadMethod
routed (Some Blob) Get = Ok route.GetBlob
routed (Some Blob) Head = Err rule.BadMethod
routed (Some Blob) Put = Ok route.PutBlob
routed (Some Blob) Other = Err rule.BadMethod

-- the pool and the digest that the target names
abbrev pub parts_of : List ℕ → Parts
parts_of target = record { pool = pool_part target; digest = digest_part target }

abbrev pub called_by : Option (List ℕ) → Result (List ℕ) Rule
called_by None = Err rule.NoCaller
called_by (Some who) = Ok who

-- the refusal of a malformed X-Swarming-After
abbrev pub broken_front : Rule
broken_front = rule.BadField (codes "X-Swarming-After") Grammar

-- a malformed X-Swarming-After is reported before no_pool and no_task
abbrev pub unless_front_broken : After → Result Asked Rule → Result Asked Rule
unless_front_broken Absent asked = asked
unless_front_broken (Front front) asked = asked
unless_front_broken Broken asked = Err broken_front

-- a fault of the body is reported before a malformed X-Swarming-After
abbrev pub with_front : After → Result Asked WireFault → Result Asked Rule
with_front after (Ok asked) = unless_front_broken after (Ok asked)
with_front after (Err fault.Memory) = Err rule.WantOfMemory
with_front after (Err fault.BadJson) = Err rule.BadJson
with_front after (Err (fault.BadField field broken)) = Err (rule.BadField field broken)
with_front after (Err fault.NoPool) = unless_front_broken after (Err rule.NoPool)
with_front after (Err fault.NoTask) = unless_front_broken after (Err rule.NoTask)

-- the length of the log that the caller has seen
abbrev pub front_of : After → Option ℕ
front_of Absent = None
front_of (Front front) = Some front
front_of Broken = None

-- a caller, and what it asks of a pool
pub record CallerRequest : Type 0 where
  pub who : List ℕ
  pub asked : Asked

abbrev pub caller_request_of : List ℕ → Asked → Result CallerRequest Rule
caller_request_of who asked = Ok (record { who = who; asked = asked })

-- what a caller asks of a pool, unless the pool's settings don't permit it
abbrev pub permitted_request : Settings → List ℕ → Asked → Result CallerRequest Rule
permitted_request settings who asked = and_then (permitted settings who asked) (caller_request_of who)

-- the request that a head and a body mean, or the first refusal of route, method, caller, target and body, X-Swarming-After and permission, in this order
abbrev pub request_of : Settings → RequestHead → List ℕ → Result CallerRequest Rule
request_of settings head body =
    and_then (routed (resource_of head.target) (method_of head)) (λ route.
    and_then (called_by (caller_of head)) (λ who.
    and_then (with_front (after_of head) (asked_of settings route (parts_of head.target) body)) (permitted_request settings who)))

-- ---- where only some calls are served

-- a call that boards serve
abbrev pub is_board_call : Route → Bool
is_board_call route.CountTasks = true
is_board_call route.ListTasks = true
is_board_call route.GetResult = true
is_board_call route.ListBots = true
is_board_call route.GetBot = true
is_board_call _ = false

-- what stands at a target where these calls are served
abbrev pub among : ServedCalls → Option Resource → Option Resource
among All resource = resource
among Boards None = None
among Boards (Some Blob) = None
among Boards (Some (Call call)) = if is_board_call call then Some (Call call) else None

-- the request that a head and a body mean where these calls are served, or the first refusal
abbrev pub request_among : ServedCalls → Settings → RequestHead → List ℕ → Result CallerRequest Rule
request_among serves settings head body =
    and_then (routed (among serves (resource_of head.target)) (method_of head)) (λ route.
    and_then (called_by (caller_of head)) (λ who.
    and_then (with_front (after_of head) (asked_of settings route (parts_of head.target) body)) (permitted_request settings who)))

-- the request that they mean to a board
abbrev pub board_request_of : Settings → RequestHead → List ℕ → Result CallerRequest Rule
board_request_of settings head body = request_among Boards settings head body
