-- The commands of a client.
use Rattle.std.specs.Prelude.{◌≡◌, ⊤, ℕ, Bool, true, false, ◌||◌, List, [], ◌∷◌, codes, Option, Some, None, is_some, Result, Ok, Err, if◌then◌else◌}
use Rattle.dimensions.specs.Alike.{same}
use Rattle.sw_base.specs.Link.{LinkState}
use Rattle.link_writer.specs.Printing.{Prints}
use Rattle.json_fields.specs.Ids.{id_of}
use Rattle.request_head.specs.HeadFields.{is_caller}
use Rattle.client_requests.specs.Addresses.{address_of}
use Rattle.swarm_model.specs.declared.task_state.TaskState.{TaskState}
use Rattle.swarm_model.specs.States.{state_named}
use Rattle.client_commands.specs.declared.server.Server.{Server}
use Rattle.client_commands.specs.Commands.{Triggers, Cancels, Collects, ListsTasks, ListsBots, settings_line}
use Rattle.client_commands.specs.Batches.{SpawnsTasks, CollectsBatch}
use Rattle.client_commands.specs.Plans.{World}
use Rattle.swarm_batch.specs.Names.{is_batch_name}
use Rattle.command_words.specs.ClientWork.{WorkValue, trigger, collect, cancel, spawn_tasks, collect_batch, tasks, bots}
use Rattle.remote_commands.specs.declared.option_fault.OptionFault.{OptionFault}
use Rattle.remote_commands.specs.declared.option_fault.OptionFault.TheVariants as option_fault
use Rattle.remote_commands.specs.Streams.{PrintsMade}
use Rattle.remote_commands.specs.Environment.{Environment, OnlyConsole}

-- the name of an option, and whether its value is in its grammar
abbrev pub OptionTest : Type 0
OptionTest = List ℕ × Bool

abbrev pub succeeds : {A E : Type 0} → Result A E → Bool
succeeds (Ok x) = true
succeeds (Err e) = false

abbrev pub server_test : List ℕ → OptionTest
server_test server = (codes "server", is_some (address_of server))

abbrev pub caller_test : List ℕ → OptionTest
caller_test caller = (codes "caller", is_caller caller)

abbrev pub id_test : List ℕ → OptionTest
id_test id = (codes "id", succeeds (id_of id))

abbrev pub batch_name_test : List ℕ → OptionTest
batch_name_test name = (codes "name", is_batch_name name)

-- all states, or one of them by its name
abbrev pub state_test : List ℕ → OptionTest
state_test state = (codes "state", same state (codes "ALL") || is_some (state_named state))

abbrev pub wanted_state : List ℕ → Option TaskState
wanted_state state = if same state (codes "ALL") then None else state_named state

-- the first option whose value is out of its grammar
abbrev pub first_unfit : List OptionTest → Option (List ℕ)
first_unfit [] = None
first_unfit (test ∷ tests) = if test.1 then first_unfit tests else Some test.0

-- the options of a command of a client that have a grammar
abbrev pub work_tests : WorkValue → List OptionTest
work_tests (trigger file) = []
work_tests (collect polls every id) = id_test id ∷ []
work_tests (cancel kill id) = id_test id ∷ []
work_tests (spawn_tasks name file) = batch_name_test name ∷ []
work_tests (collect_batch polls every file) = []
work_tests (tasks pool state limit) = state_test state ∷ []
work_tests (bots pool limit) = []

abbrev pub client_tests : List ℕ → List ℕ → WorkValue → List OptionTest
client_tests server caller work = server_test server ∷ caller_test caller ∷ work_tests work

-- where a batch is named, its name is in its grammar
abbrev pub NamesBatch : WorkValue → Type 0
NamesBatch (spawn_tasks name file) = is_batch_name name ≡ true
NamesBatch other = ⊤

-- what a command of a client does at a server
abbrev pub DoesWork : WorkValue → Server → World → World → ℕ → Type 0
DoesWork (trigger file) by w v status = Triggers by file w v status
DoesWork (collect polls every id) by w v status = Collects by id polls every w v status
DoesWork (cancel kill id) by w v status = Cancels by id kill w v status
DoesWork (spawn_tasks name file) by w v status = SpawnsTasks by name file w v status
DoesWork (collect_batch polls every file) by w v status = CollectsBatch by file polls every w v status
DoesWork (tasks pool state limit) by w v status = ListsTasks by pool (wanted_state state) limit w v status
DoesWork (bots pool limit) by w v status = ListsBots by pool limit w v status

-- what a client works with
abbrev pub world_of : Environment → World
world_of x = record { dialer = x.dialer; console = x.streams.console; aside = record { waited = x.waited; files = x.files } }

-- it was done at the server that the words name, for their caller
pub record DoneAt (server caller : List ℕ) (work : WorkValue) (x y : Environment) (status : ℕ) : Type 0 where
  pub address : List ℕ × List ℕ
  pub address_is : address_of server ≡ Some address
  pub by : Server
  pub dials : by.address.now ≡ address.0
  pub host_is : by.host.now ≡ address.1
  pub caller_is : by.caller.now ≡ caller
  pub done : DoesWork work by (world_of x) (world_of y) status

-- the store, the listener and the runner are as before
pub record AsideFromClient (x y : Environment) : Type 0 where
  pub store : y.store ≡ x.store
  pub listener : y.streams.listener ≡ x.streams.listener
  pub runner : y.runner ≡ x.runner

-- a client's command was carried out, or the first of its options that is out of its grammar is told
pub data RunsClient (server caller : List ℕ) (work : WorkValue) (x y : Environment) (status : ℕ) : Type 0 where
  carried_out : first_unfit (client_tests server caller work) ≡ None → DoneAt server caller work x y status → AsideFromClient x y → RunsClient server caller work x y status
  refused : (option : List ℕ) → first_unfit (client_tests server caller work) ≡ Some option → Prints (settings_line option (codes "grammar")) 3 x.streams.console y.streams.console status → OnlyConsole x y
      → RunsClient server caller work x y status
  no_memory : status ≡ 5 → y ≡ x → RunsClient server caller work x y status

-- ---- the parts

-- the option of a fault
abbrev pub option_name : OptionFault → List ℕ
option_name option_fault.Memory = []
option_name option_fault.Server = codes "server"
option_name option_fault.Caller = codes "caller"
option_name option_fault.Id = codes "id"
option_name option_fault.State = codes "state"
option_name option_fault.Name = codes "name"
option_name option_fault.Dimensions = codes "dimensions"

-- the line for a fault is printed, where there is memory for it
abbrev pub PrintsOptionFault : OptionFault → LinkState → LinkState → ℕ → Type 0
PrintsOptionFault option_fault.Memory s t status = (status ≡ 5) × (t ≡ s)
PrintsOptionFault why s t status = PrintsMade (settings_line (option_name why) (codes "grammar")) 3 s t status

-- it is the first option that isn't in its grammar; of want of memory nothing is said
abbrev pub IsOptionFault : List OptionTest → OptionFault → Type 0
IsOptionFault tests option_fault.Memory = ⊤
IsOptionFault tests why = first_unfit tests ≡ Some (option_name why)

-- all options are in their grammars, or the first that isn't is told
abbrev pub Fits : {T : Type 0} → List OptionTest → Result T OptionFault → Type 0
Fits tests (Ok x) = first_unfit tests ≡ None
Fits tests (Err why) = IsOptionFault tests why
