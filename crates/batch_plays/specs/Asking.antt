-- What the body of a line asks of the pool, or the refusal that comes before any pool is asked.
use Rattle.std.specs.Prelude.{ℕ, ⊤, Bool, false, nat_lt, List, [], length, Option, slice_get, Result, Ok, Err, if◌then◌else◌}
use Rattle.std.specs.Option.{option_map_or}
use Rattle.batch_plays.specs.Types.{RefusalCode, Settings, Reply, Told, Asked, WireFault, Parts}
use Rattle.refusal_codes.specs.declared.refusal_code.RefusalCode.TheVariants as code
use Rattle.routes.specs.declared.route.Route.TheVariants as route
use Rattle.swarm_model.specs.declared.permission.Permission.TheVariants.{CreateTask}
use Rattle.swarm_model.specs.declared.reply.Reply.TheVariants as reply
use Rattle.swarm_model.specs.Settings.{permits}
use Rattle.reply_bodies.specs.Refusals.{code_of}
use Rattle.server_calls.specs.declared.told.Told.TheVariants as told
use Rattle.swarm_wire.specs.declared.asked.WireFault.TheVariants as fault
use Rattle.swarm_wire.specs.Asking.{asked_of, FitsPool, CarriesBytes}
use Rattle.batch_plays.specs.declared.asking.Asking.{Asking}
use Rattle.batch_plays.specs.declared.asking.Asking.TheVariants as asking

-- the target of a call that creates a task has no parts
abbrev pub no_parts : Parts
no_parts = record { pool = []; digest = [] }

-- the code of what is read of no task
abbrev pub fault_code : WireFault → RefusalCode
fault_code fault.Memory = code.WantOfMemory
fault_code fault.BadJson = code.BadJson
fault_code (fault.BadField field broken) = code.BadField
fault_code fault.NoPool = code.NoPool
fault_code fault.NoTask = code.NoTask

-- the pool at a place lets the caller create tasks
abbrev pub may_create : Settings → List ℕ → ℕ → Bool
may_create settings who place = option_map_or (λ pool. permits pool who CreateTask) (slice_get settings.pools place) false

-- what was read is asked where its pool permits it
abbrev pub asking_by : Settings → List ℕ → Result Asked WireFault → Asking
asking_by settings who (Ok asked) = if may_create settings who asked.place then asking.Asks asked else asking.Refused code.Denied
asking_by settings who (Err broken) = asking.Refused (fault_code broken)

-- a body that is too long is not read
abbrev pub asking_of : Settings → List ℕ → List ℕ → Asking
asking_of settings who body =
    if nat_lt 65536 (length body) then asking.Refused code.TooLarge else asking_by settings who (asked_of settings route.NewTask no_parts body)

-- what is asked may be asked of its pool, and has its bytes
abbrev pub IsAskable : Settings → Asking → Type 0
IsAskable settings (asking.Asks asked) = FitsPool settings.pools asked × CarriesBytes asked
IsAskable settings (asking.Refused code) = ⊤

-- what a reply of the only pool tells
abbrev pub told_of : Reply → Told
told_of (reply.No why) = told.No (code_of why) []
told_of answered = told.Good 0 answered []
