-- The requests of a client: the bodies that are sent, and what the server reads in them.
use Rattle.std.specs.Prelude.{◌≡◌, ℕ, Bool, List, [], Option, Some, None, Result, Ok, codes, vec_items}
use Rattle.serde_json.specs.Data.{Data, boolean, string, object, member, no_members}
use Rattle.json_values.specs.Values.{whole}
use Rattle.swarm_model.specs.declared.pool_settings.Settings.{Settings}
use Rattle.swarm_model.specs.declared.request.Request.{Request}
use Rattle.swarm_model.specs.declared.request.Request.TheVariants as ask
use Rattle.swarm_model.specs.declared.task_state.TaskState.{TaskState}
use Rattle.swarm_model.specs.States.{state_name}
use Rattle.json_fields.specs.Readings.{reading, at, ◌>>=◌}
use Rattle.json_fields.specs.Ids.{id_of, task_of_id, try_of_id}
use Rattle.routes.specs.declared.route.Route.{Route}
use Rattle.routes.specs.declared.route.Route.TheVariants as route
use Rattle.swarm_wire.specs.declared.asked.Asked.{Asked}
use Rattle.swarm_wire.specs.declared.asked.WireFault.{WireFault}
use Rattle.swarm_wire.specs.declared.parts.Parts.{Parts}
use Rattle.swarm_wire.specs.Asking.{asked, asked_of, or_bad_field, pool_at, pool_named}
use Rattle.client_requests.specs.Requests.{request_text}
use Rattle.client_commands.specs.declared.post.Post.{Post}
use Rattle.client_commands.specs.declared.server.Server.{Server}

-- ---- texts

-- a request that is posted to a path of the server
abbrev pub posted : List ℕ → Server → List ℕ → List ℕ
posted path server body = request_text (codes "POST") path server.host.now server.caller.now body

-- ---- the JSON values of bodies

unfoldable pub id_data : List ℕ → Data
id_data id = object (member (codes "task_id") (string id) no_members)

unfoldable pub cancel_data : List ℕ → Bool → Data
cancel_data id kill = object (member (codes "kill_running") (boolean kill) (member (codes "task_id") (string id) no_members))

unfoldable pub stdout_data : List ℕ → ℕ → Data
stdout_data id offset = object (member (codes "offset") (whole offset) (member (codes "task_id") (string id) no_members))

-- the name of a state, or `ALL` for any
abbrev pub state_word : Option TaskState → List ℕ
state_word None = codes "ALL"
state_word (Some state) = state_name state

unfoldable pub tasks_data : List ℕ → Option TaskState → ℕ → Data
tasks_data pool state limit =
    object
    (member (codes "limit") (whole limit)
    (member (codes "pool") (string pool)
    (member (codes "state") (string (state_word state)) no_members)))

unfoldable pub bots_data : List ℕ → ℕ → Data
bots_data pool limit = object (member (codes "limit") (whole limit) (member (codes "pool") (string pool) no_members))

-- ---- what is read in them

-- what is known of a body: its bytes, the JSON value that is read of it, or what the server reads it as, under any settings
pub data Body : Type 0 where
  bytes : List ℕ → Body
  value : Option Data → Body
  meaning : (Settings → Result Asked WireFault) → Body

abbrev pub IsBody : Route → Body → List ℕ → Type 0
IsBody route (bytes body) text = text ≡ body
IsBody route (value is) text = reading text ≡ is
IsBody route (meaning asks) text = (settings : Settings) (parts : Parts) → asked_of settings route parts text ≡ asks settings

-- a request to the pool at the place of an id
abbrev pub to_id : List ℕ → (ℕ → Request) → Settings → Result Asked WireFault
to_id text request settings = do
  id ← or_bad_field (at (codes "task_id") (id_of text))
  place ← pool_at settings.pools id
  Ok (asked place (request id))

-- a request to the pool of a name
abbrev pub to_pool : List ℕ → Request → Settings → Result Asked WireFault
to_pool name request settings = do
  place ← pool_named settings.pools name
  Ok (asked place request)

-- ---- calls

-- a call: its route, where it is posted, and its body
pub record Call : Type 0 where
  pub route : Route
  pub path : List ℕ
  pub body : Body

-- what is posted is a request of the call
pub record Posts (call : Call) (post : Post) : Type 0 where
  pub route : call.route ≡ post.route
  pub path : call.path ≡ post.path.now
  pub body : IsBody call.route call.body (vec_items post.body)

-- a task is asked for by a body of which this is known
abbrev pub task_call : Body → Call
task_call body = record { route = route.NewTask; path = codes "/prpc/swarming.v2.Tasks/NewTask"; body = body }

-- as a text has it
abbrev pub new_task_call : List ℕ → Call
new_task_call text = task_call (bytes text)

abbrev pub cancel_call : List ℕ → Bool → Call
cancel_call id kill = record {
  route = route.CancelTask;
  path = codes "/prpc/swarming.v2.Tasks/CancelTask";
  body = meaning (to_id id (λ n. ask.Cancel (task_of_id n) (try_of_id n) kill));
}

abbrev pub result_call : List ℕ → Call
result_call id = record {
  route = route.GetResult;
  path = codes "/prpc/swarming.v2.Tasks/GetResult";
  body = meaning (to_id id (λ n. ask.Result (task_of_id n) (try_of_id n)));
}

-- at most 65536 bytes of the output from an offset on
abbrev pub stdout_call : List ℕ → ℕ → Call
stdout_call id offset = record {
  route = route.GetStdout;
  path = codes "/prpc/swarming.v2.Tasks/GetStdout";
  body = meaning (to_id id (λ n. ask.Stdout (task_of_id n) (try_of_id n) offset 65536));
}

-- the first page of the tasks in a state, or in any
abbrev pub tasks_call : List ℕ → Option TaskState → ℕ → Call
tasks_call pool state limit = record {
  route = route.ListTasks;
  path = codes "/prpc/swarming.v2.Tasks/ListTasks";
  body = meaning (to_pool pool (ask.List state limit None));
}

-- the first page of the bots
abbrev pub bots_call : List ℕ → ℕ → Call
bots_call pool limit = record {
  route = route.ListBots;
  path = codes "/prpc/swarming.v2.Bots/ListBots";
  body = meaning (to_pool pool (ask.Bots limit []));
}
