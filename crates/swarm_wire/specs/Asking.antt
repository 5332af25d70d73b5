-- What a call asks for, by its route, the parts of its target and its body.
use Rattle.std.specs.Prelude.{◌≡◌, ◌≢◌, ◌==◌, ℕ, List, [], length, nat_lt, Option, Some, None, Result, Ok, Err, if◌then◌else◌, IsTrue, IsSomeAnd, slice_get, codes}
use Rattle.sha2.specs.Sha256.{sha256}
use Rattle.serde_json.specs.Data.{Data}
use Rattle.task_props.specs.declared.prop_fault.PropFault.{PropFault}
use Rattle.task_props.specs.declared.prop_fault.PropFault.TheVariants as prop_fault
use Rattle.task_props.specs.declared.prop_rule.PropRule.TheVariants.{Range, WrongType}
use Rattle.task_props.specs.Checked.{pool_of_task}
use Rattle.swarm_model.specs.declared.pool_settings.PoolSettings.{PoolSettings}
use Rattle.swarm_model.specs.declared.pool_settings.Settings.{Settings}
use Rattle.swarm_model.specs.declared.request.Request.{Request}
use Rattle.swarm_model.specs.declared.request.Request.TheVariants as ask
use Rattle.swarm_model.specs.Fits.{fits}
use Rattle.swarm_model.specs.Bytes.{Carries}
use Rattle.swarm_wire.specs.declared.asked.Asked.{Asked}
use Rattle.swarm_wire.specs.declared.asked.WireFault.{WireFault}
use Rattle.swarm_wire.specs.declared.asked.WireFault.TheVariants as fault
use Rattle.swarm_wire.specs.declared.parts.Parts.{Parts}
use Rattle.bot_bodies.specs.declared.pool_request.PoolRequest.{PoolRequest}
use Rattle.routes.specs.declared.route.Route.{Route}
use Rattle.routes.specs.declared.route.Route.TheVariants as route
use Rattle.json_fields.specs.Readings.{reading, ◌>>=◌}
use Rattle.json_fields.specs.Fields.{is_object}
use Rattle.json_fields.specs.Digests.{digest_at}
use Rattle.swarm_wire.specs.Pools.{pool_place}
use Rattle.json_fields.specs.Ids.{place_of_number, task_of_number, place_of_id, task_of_id, try_of_id}
use Rattle.task_bodies.specs.Tasks.{task_in}
use Rattle.task_bodies.specs.Results.{id_in}
use Rattle.task_bodies.specs.Cancels.{cancel_in}
use Rattle.task_bodies.specs.Lists.{list_body_in}
use Rattle.task_bodies.specs.Counts.{count_in}
use Rattle.bot_bodies.specs.BotCalls.{handshake_in, poll_in, claim_in, event_in, terminate_in, get_bot_in, list_bots_in}
use Rattle.bot_bodies.specs.Reports.{report_in, update_by}
use Rattle.task_bodies.specs.BlobLists.{blobs_in}
use Rattle.task_bodies.specs.Stdouts.{stdout_in}

-- a request with which no bytes come, to the pool at a place
abbrev pub asked : ℕ → Request → Asked
asked place request = record { place = place; request = request; bytes = [] }

abbrev pub wire_fault : PropFault → WireFault
wire_fault prop_fault.Memory = fault.Memory
wire_fault (prop_fault.Broken field rule) = fault.BadField field rule

abbrev pub or_bad_field : {A : Type 0} → Result A PropFault → Result A WireFault
or_bad_field (Ok x) = Ok x
or_bad_field (Err e) = Err (wire_fault e)

abbrev pub or_no_pool : Option ℕ → Result ℕ WireFault
or_no_pool None = Err fault.NoPool
or_no_pool (Some place) = Ok place

-- the place of the pool of a name
abbrev pub pool_named : List PoolSettings → List ℕ → Result ℕ WireFault
pool_named pools name = or_no_pool (pool_place pools name)

-- a task for the pool of its dimensions
unfoldable pub new_of : List PoolSettings → Data → Result Asked WireFault
new_of pools d = do
  task ← or_bad_field (task_in d)
  place ← pool_named pools (pool_of_task task)
  Ok (asked place (ask.New task))

-- the place of an id, where the settings have a pool there
abbrev pub pool_at : List PoolSettings → ℕ → Result ℕ WireFault
pool_at pools id = if nat_lt (place_of_id id) (length pools) then Ok (place_of_id id) else Err fault.NoTask

unfoldable pub result_of : List PoolSettings → Data → Result Asked WireFault
result_of pools d = do
  id ← or_bad_field (id_in d)
  place ← pool_at pools id
  Ok (asked place (ask.Result (task_of_id id) (try_of_id id)))

unfoldable pub cancel_of : List PoolSettings → Data → Result Asked WireFault
cancel_of pools d = do
  fields ← or_bad_field (cancel_in d)
  place ← pool_at pools fields.0
  Ok (asked place (ask.Cancel (task_of_id fields.0) (try_of_id fields.0) fields.1))

unfoldable pub stdout_of : List PoolSettings → Data → Result Asked WireFault
stdout_of pools d = do
  body ← or_bad_field (stdout_in d)
  place ← pool_at pools body.id
  Ok (asked place (ask.Stdout (task_of_id body.id) (try_of_id body.id) body.offset body.length))

-- a report, with the bytes of its chunk
unfoldable pub update_of : List PoolSettings → Data → Result Asked WireFault
update_of pools d = do
  report ← or_bad_field (report_in d)
  place ← pool_at pools report.run
  Ok (record { place = place; request = update_by report; bytes = report.output.bytes })

unfoldable pub count_of : List PoolSettings → Data → Result Asked WireFault
count_of pools d = do
  fields ← or_bad_field (count_in d)
  place ← pool_named pools fields.0
  Ok (asked place (ask.Count fields.1))

-- the task of a cursor, whose place must be that of the pool
unfoldable pub below_of : ℕ → Option ℕ → Result (Option ℕ) WireFault
below_of place None = Ok None
below_of place (Some cursor) = if place_of_number cursor == place then Ok (Some (task_of_number cursor)) else Err (fault.BadField (codes "cursor") Range)

unfoldable pub list_of : List PoolSettings → Data → Result Asked WireFault
list_of pools d = do
  list ← or_bad_field (list_body_in d)
  place ← pool_named pools list.pool
  below ← below_of place list.cursor
  Ok (asked place (ask.List list.state list.limit below))

-- a request to the pool of its name
unfoldable pub named_of : List PoolSettings → Result PoolRequest PropFault → Result Asked WireFault
named_of pools reading = do
  named ← or_bad_field reading
  place ← pool_named pools named.pool
  Ok (asked place named.request)

-- ---- blobs, whose pools and digests stand in the target

unfoldable pub missing_of : List PoolSettings → Parts → Data → Result Asked WireFault
missing_of pools parts d = do
  blobs ← or_bad_field (blobs_in d)
  place ← pool_named pools parts.pool
  Ok (asked place (ask.FindMissing blobs))

-- the body is the bytes
unfoldable pub put_of : List PoolSettings → Parts → List ℕ → Result Asked WireFault
put_of pools parts body = do
  named ← or_bad_field (digest_at (codes "digest") parts.digest)
  place ← pool_named pools parts.pool
  Ok (record { place = place; request = ask.PutBlob named (sha256 body) (length body); bytes = body })

unfoldable pub get_of : List PoolSettings → Parts → Result Asked WireFault
get_of pools parts = do
  digest ← or_bad_field (digest_at (codes "digest") parts.digest)
  place ← pool_named pools parts.pool
  Ok (asked place (ask.GetBlob digest))

-- ---- all calls

abbrev pub object_of : Option Data → Result Data WireFault
object_of None = Err fault.BadJson
object_of (Some d) = if is_object d then Ok d else Err (fault.BadField [] WrongType)

-- the object that a body is; what is no object breaks a rule of no field
unfoldable pub object_in : List ℕ → Result Data WireFault
object_in body = object_of (reading body)

-- what a call asks for of one of these pools, or why it asks for nothing
abbrev pub asked_in : List PoolSettings → Route → Parts → List ℕ → Result Asked WireFault
asked_in pools route.NewTask parts body = object_in body >>= new_of pools
asked_in pools route.CancelTask parts body = object_in body >>= cancel_of pools
asked_in pools route.GetResult parts body = object_in body >>= result_of pools
asked_in pools route.GetStdout parts body = object_in body >>= stdout_of pools
asked_in pools route.ListTasks parts body = object_in body >>= list_of pools
asked_in pools route.CountTasks parts body = object_in body >>= count_of pools
asked_in pools route.Handshake parts body = object_in body >>= (λ d. named_of pools (handshake_in d))
asked_in pools route.Poll parts body = object_in body >>= (λ d. named_of pools (poll_in d))
asked_in pools route.Claim parts body = object_in body >>= (λ d. named_of pools (claim_in d))
asked_in pools route.Event parts body = object_in body >>= (λ d. named_of pools (event_in d))
asked_in pools route.TaskUpdate parts body = object_in body >>= update_of pools
asked_in pools route.TerminateBot parts body = object_in body >>= (λ d. named_of pools (terminate_in d))
asked_in pools route.ListBots parts body = object_in body >>= (λ d. named_of pools (list_bots_in d))
asked_in pools route.GetBot parts body = object_in body >>= (λ d. named_of pools (get_bot_in d))
asked_in pools route.FindMissing parts body = object_in body >>= missing_of pools parts
asked_in pools route.PutBlob parts body = put_of pools parts body
asked_in pools route.GetBlob parts body = get_of pools parts

unfoldable pub asked_of : Settings → Route → Parts → List ℕ → Result Asked WireFault
asked_of settings route parts body = asked_in settings.pools route parts body

-- what a function gave, seen by a view, is what is asked for, but for want of memory
abbrev pub AsksBy : {X Y : Type 0} → (X → Y) → Result X WireFault → Result Y WireFault → Type 0
AsksBy view (Ok x) wanted = wanted ≡ Ok (view x)
AsksBy view (Err why) wanted = why ≢ fault.Memory → wanted ≡ Err why

abbrev pub Asks : {A : Type 0} → Result A WireFault → Result A WireFault → Type 0
Asks result wanted = AsksBy (λ x. x) result wanted

-- the pool at its place may be asked it
abbrev pub FitsPool : List PoolSettings → Asked → Type 0
FitsPool pools a = IsSomeAnd (slice_get pools a.place) (λ pool. IsTrue (fits pool a.request))

-- its bytes are those that come with its request
abbrev pub CarriesBytes : Asked → Type 0
CarriesBytes a = Carries a.request a.bytes
