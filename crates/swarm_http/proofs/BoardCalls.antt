-- The calls that boards serve read the rows of tasks and bots alone.
use Rattle.std.proofs.Common.{◌≡◌, ℕ, Bool, true, false, List, Option, Some, None, Result, Ok, Err, refl, ap, ◌∙◌, subst}
use Rattle.std.specs.Prelude.{if◌then◌else◌, IfOk, IsTrue, codes}
use Rattle.serde_json.specs.Data.{Data}
use Rattle.json_fields.specs.Readings.{◌>>=◌}
use Rattle.json_fields.specs.Fields.{text_at, required_text_at, number_at}
use Rattle.json_fields.specs.Pages.{limit_of}
use Rattle.task_props.specs.declared.prop_fault.PropFault.{PropFault}
use Rattle.task_bodies.specs.Results.{id_in}
use Rattle.task_bodies.specs.Lists.{list_body_in}
use Rattle.task_bodies.specs.Counts.{count_in}
use Rattle.bot_bodies.specs.declared.pool_request.PoolRequest.{PoolRequest}
use Rattle.bot_bodies.specs.Names.{name_at, optional_name_at}
use Rattle.bot_bodies.specs.BotCalls.{get_bot_in, list_bots_in}
use Rattle.swarm_http.specs.Types.{Method, Get, Head, Post, Put, Other, After, Absent, Front, Broken, PoolSettings, Settings, Resource, Call, Blob, Route, Asked, WireFault, Parts}
use Rattle.pool_views.specs.Views.{reads_rows}
use Rattle.routes.specs.declared.route.Route.TheVariants as route
use Rattle.swarm_wire.specs.declared.asked.WireFault.TheVariants as fault
use Rattle.swarm_wire.specs.Asking.{or_bad_field, pool_named, pool_at, below_of, object_in, result_of, count_of, list_of, named_of, asked_in, asked_of}
use Rattle.swarm_http.specs.declared.served_calls.ServedCalls.TheVariants.{Boards}
use Rattle.swarm_http.specs.Requests.{among, is_board_call, routed, with_front}

routed_call : (serves : Bool) (call found : Route) (method : Method) → is_board_call call ≡ serves → routed (if serves then Some (Call call) else None) method ≡ Ok found → is_board_call found ≡ true
routed_call true call found Post is e = let same : found ≡ call = cc in ap is_board_call same ∙ is
routed_call true call found Get is e = absurd (cc)
routed_call true call found Head is e = absurd (cc)
routed_call true call found Put is e = absurd (cc)
routed_call true call found Other is e = absurd (cc)
routed_call false call found method is e = absurd (cc)

-- the route of a request to a board is that of a call that boards serve
board_route : (resource : Option Resource) (method : Method) (found : Route) → routed (among Boards resource) method ≡ Ok found → is_board_call found ≡ true
board_route None method found e = absurd (cc)
board_route (Some Blob) method found e = absurd (cc)
board_route (Some (Call call)) method found e = routed_call (is_board_call call) call found method refl e

front_asks : (after : After) (r : Result Asked WireFault) (asked : Asked) → with_front after r ≡ Ok asked → r ≡ Ok asked
front_asks Absent (Ok a) asked e = let same : a ≡ asked = cc in ap Ok same
front_asks (Front front) (Ok a) asked e = let same : a ≡ asked = cc in ap Ok same
front_asks Broken (Ok a) asked e = absurd (cc)
front_asks after (Err fault.Memory) asked e = absurd (cc)
front_asks after (Err fault.BadJson) asked e = absurd (cc)
front_asks after (Err (fault.BadField field broken)) asked e = absurd (cc)
front_asks Absent (Err fault.NoPool) asked e = absurd (cc)
front_asks (Front front) (Err fault.NoPool) asked e = absurd (cc)
front_asks Broken (Err fault.NoPool) asked e = absurd (cc)
front_asks Absent (Err fault.NoTask) asked e = absurd (cc)
front_asks (Front front) (Err fault.NoTask) asked e = absurd (cc)
front_asks Broken (Err fault.NoTask) asked e = absurd (cc)

-- what holds of each value that goes on holds of the last
bound : {A B E : Type 0} (r : Result A E) (next : A → Result B E) (P : B → Type 0) → ((a : A) → IfOk (next a) P) → IfOk (r >>= next) P
bound (Ok a) next P h = h a
bound (Err e) next P h = tt

bound_by : {A B E : Type 0} (r : Result A E) (Q : A → Type 0) (next : A → Result B E) (P : B → Type 0) → IfOk r Q → ((a : A) → Q a → IfOk (next a) P) → IfOk (r >>= next) P
bound_by (Ok a) Q next P q h = h a q
bound_by (Err e) Q next P q h = tt

abbrev Reads : Asked → Type 0
Reads asked = IsTrue (reads_rows asked.request)

abbrev ReadsNamed : PoolRequest → Type 0
ReadsNamed named = IsTrue (reads_rows named.request)

named_part : (r : Result PoolRequest PropFault) → IfOk r ReadsNamed → IfOk (or_bad_field r) ReadsNamed
named_part (Ok named) h = h
named_part (Err e) h = tt

named_reads : (pools : List PoolSettings) (r : Result PoolRequest PropFault) → IfOk r ReadsNamed → IfOk (named_of pools r) Reads
unfolding named_of
named_reads pools r h = bound_by (or_bad_field r) ReadsNamed _ Reads (named_part r h) (λ named reads. bound (pool_named pools named.pool) _ Reads (λ place. reads))

count_reads : (pools : List PoolSettings) (d : Data) → IfOk (count_of pools d) Reads
unfolding count_of
count_reads pools d = bound (or_bad_field (count_in d)) _ Reads (λ fields. bound (pool_named pools fields.0) _ Reads (λ place. refl))

list_reads : (pools : List PoolSettings) (d : Data) → IfOk (list_of pools d) Reads
unfolding list_of
list_reads pools d =
    bound (or_bad_field (list_body_in d)) _ Reads (λ list. bound (pool_named pools list.pool) _ Reads (λ place. bound (below_of place list.cursor) _ Reads (λ below. refl)))

result_reads : (pools : List PoolSettings) (d : Data) → IfOk (result_of pools d) Reads
unfolding result_of
result_reads pools d = bound (or_bad_field (id_in d)) _ Reads (λ id. bound (pool_at pools id) _ Reads (λ place. refl))

bot_reads : (d : Data) → IfOk (get_bot_in d) ReadsNamed
unfolding get_bot_in
bot_reads d =
    bound (required_text_at (codes "pool") d) _ ReadsNamed (λ pool. bound (required_text_at (codes "bot_id") d) _ ReadsNamed (λ name. bound (name_at (codes "bot_id") name) _ ReadsNamed (λ bot. refl)))

bots_read : (d : Data) → IfOk (list_bots_in d) ReadsNamed
unfolding list_bots_in
bots_read d =
    bound (required_text_at (codes "pool") d) _ ReadsNamed (λ pool. bound (number_at (codes "limit") d) _ ReadsNamed (λ number. bound (text_at (codes "cursor") d) _ ReadsNamed (λ text.
    bound (limit_of number) _ ReadsNamed (λ limit. bound (optional_name_at (codes "cursor") text) _ ReadsNamed (λ after. refl)))))

-- what a call that boards serve asks for
call_reads : (pools : List PoolSettings) (call : Route) (parts : Parts) (body : List ℕ) → is_board_call call ≡ true → IfOk (asked_in pools call parts body) Reads
call_reads pools route.CountTasks parts body is = bound (object_in body) (count_of pools) Reads (count_reads pools)
call_reads pools route.ListTasks parts body is = bound (object_in body) (list_of pools) Reads (list_reads pools)
call_reads pools route.GetResult parts body is = bound (object_in body) (result_of pools) Reads (result_reads pools)
call_reads pools route.ListBots parts body is = bound (object_in body) _ Reads (λ d. named_reads pools (list_bots_in d) (bots_read d))
call_reads pools route.GetBot parts body is = bound (object_in body) _ Reads (λ d. named_reads pools (get_bot_in d) (bot_reads d))
call_reads pools other parts body is = absurd (cc)

asked_reads : (settings : Settings) (call : Route) (parts : Parts) (body : List ℕ) → is_board_call call ≡ true → IfOk (asked_of settings call parts body) Reads
unfolding asked_of
asked_reads settings call parts body is = call_reads settings.pools call parts body is

-- a request to a board reads rows alone
pub board_reads : (settings : Settings) (resource : Option Resource) (method : Method) (found : Route) (parts : Parts) (after : After) (body : List ℕ) (asked : Asked)
    → routed (among Boards resource) method ≡ Ok found → with_front after (asked_of settings found parts body) ≡ Ok asked → IsTrue (reads_rows asked.request)
board_reads settings resource method found parts after body asked e asks =
    subst (λ (r : Result Asked WireFault). IfOk r Reads) (front_asks after (asked_of settings found parts body) asked asks) (asked_reads settings found parts body (board_route resource method found e))
