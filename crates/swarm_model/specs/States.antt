-- The names of the states.
use Rattle.std.specs.Prelude.{ℕ, List, Option, codes}
use Rattle.std.specs.List.{find}
use Rattle.dimensions.specs.Alike.{same}
use Rattle.swarm_model.specs.Types.{TaskState, Pending, Running, Expired, TimedOut, BotDied, Canceled, Completed, Killed, NoResource}
use Rattle.swarm_model.specs.History.{states}

abbrev pub state_name : TaskState → List ℕ
state_name Pending = codes "PENDING"
state_name Running = codes "RUNNING"
state_name Expired = codes "EXPIRED"
state_name TimedOut = codes "TIMED_OUT"
state_name BotDied = codes "BOT_DIED"
state_name Canceled = codes "CANCELED"
state_name Completed = codes "COMPLETED"
state_name Killed = codes "KILLED"
state_name NoResource = codes "NO_RESOURCE"

-- the state of a name
unfoldable pub state_named : List ℕ → Option TaskState
state_named name = find (λ state. same (state_name state) name) states
