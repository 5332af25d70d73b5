-- The names of events, and that a state and an event are found by their names.
use Rattle.std.proofs.Common.{◌≡◌, List, Option, Some, None, refl}
use Rattle.std.specs.Prelude.{ℕ, codes, if◌then◌else◌}
use Rattle.dimensions.specs.Alike.{same}
use Rattle.line_parts.specs.Types.{TaskState, EventKind}
use Rattle.swarm_model.specs.declared.task_state.TaskState.TheVariants.{Pending, Running, Expired, TimedOut, BotDied, Canceled, Completed, Killed, NoResource}
use Rattle.swarm_model.specs.declared.entry.EventKind.TheVariants.{Ping, Quarantine, Unquarantine}
use Rattle.swarm_model.specs.States.{state_name, state_named}

abbrev pub event_name : EventKind → List ℕ
event_name Ping = codes "ping"
event_name Quarantine = codes "quarantine"
event_name Unquarantine = codes "unquarantine"

-- the event of a name
unfoldable pub event_named : List ℕ → Option EventKind
event_named name =
    if same name (codes "ping") then Some Ping
    else if same name (codes "quarantine") then Some Quarantine
    else if same name (codes "unquarantine") then Some Unquarantine
    else None

pub state_reads_back : (state : TaskState) → state_named (state_name state) ≡ Some state
unfolding state_named
state_reads_back Pending = refl
state_reads_back Running = refl
state_reads_back Expired = refl
state_reads_back TimedOut = refl
state_reads_back BotDied = refl
state_reads_back Canceled = refl
state_reads_back Completed = refl
state_reads_back Killed = refl
state_reads_back NoResource = refl

pub event_reads_back : (event : EventKind) → event_named (event_name event) ≡ Some event
unfolding event_named
event_reads_back Ping = refl
event_reads_back Quarantine = refl
event_reads_back Unquarantine = refl
