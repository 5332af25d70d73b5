-- The permission without which no pool is asked.
use Rattle.std.specs.Prelude.{List, ℕ, Option, Some, None, Result, Ok, Err, slice_get, if◌then◌else◌}
use Rattle.swarm_http.specs.Types.{Permission, PoolSettings, Settings, Rule, Asked}
use Rattle.swarm_model.specs.declared.permission.Permission.TheVariants as permission
use Rattle.swarm_model.specs.declared.request.Request.{Request}
use Rattle.swarm_model.specs.declared.request.Request.TheVariants as ask
use Rattle.swarm_model.specs.declared.rule.Rule.TheVariants as rule
use Rattle.swarm_model.specs.Settings.{permits}

-- the permission that a request needs before its pool is asked; whether a task may be canceled, or its result or output seen, the pool decides
abbrev pub permission_of : Request → Option Permission
permission_of (ask.New task) = Some permission.CreateTask
permission_of (ask.Cancel task try_no kill) = None
permission_of (ask.Result task try_no) = None
permission_of (ask.Stdout task try_no offset length) = None
permission_of (ask.List state limit below) = Some permission.ListTasks
permission_of (ask.Count state) = Some permission.ListTasks
permission_of (ask.Bots limit after) = Some permission.ListBots
permission_of (ask.Bot bot) = Some permission.ListBots
permission_of (ask.Handshake bot session dims quarantined) = Some permission.RunBot
permission_of (ask.Poll bot dims quarantined) = Some permission.RunBot
permission_of (ask.Claim bot claim) = Some permission.RunBot
permission_of (ask.Event bot kind message) = Some permission.RunBot
permission_of (ask.Update bot task try_no chunk last) = Some permission.RunBot
permission_of (ask.Terminate bot) = Some permission.TerminateBot
permission_of (ask.PutBlob named actual size) = Some permission.UseBlobs
permission_of (ask.GetBlob digest) = Some permission.UseBlobs
permission_of (ask.FindMissing blobs) = Some permission.UseBlobs

-- what is asked, unless it needs a permission that its pool doesn't give the caller
abbrev pub unless_denied : List ℕ → Option Permission → Option PoolSettings → Asked → Result Asked Rule
unless_denied who None pool asked = Ok asked
unless_denied who (Some wanted) None asked = Ok asked
unless_denied who (Some wanted) (Some pool) asked = if permits pool who wanted then Ok asked else Err (rule.Denied wanted pool.name)

-- what a caller asks, where the pool at its place permits it
abbrev pub permitted : Settings → List ℕ → Asked → Result Asked Rule
permitted settings who asked = unless_denied who (permission_of asked.request) (slice_get settings.pools asked.place) asked
