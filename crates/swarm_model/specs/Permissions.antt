-- The permissions and their names.
use Rattle.std.specs.Prelude.{ℕ, Bool, ◌==◌, List, [], ◌∷◌, Option, codes}
use Rattle.std.specs.List.{find}
use Rattle.dimensions.specs.Alike.{same}
use Rattle.swarm_model.specs.declared.permission.Permission.{Permission}
use Rattle.swarm_model.specs.declared.permission.Permission.TheVariants.{CreateTask, CancelTask, ListTasks, ListBots, TerminateBot, RunBot, UseBlobs}

abbrev pub number_of : Permission → ℕ
number_of CreateTask = 0
number_of CancelTask = 1
number_of ListTasks = 2
number_of ListBots = 3
number_of TerminateBot = 4
number_of RunBot = 5
number_of UseBlobs = 6

abbrev pub is_permission : Permission → Permission → Bool
is_permission wanted permission = number_of permission == number_of wanted

-- all of them, in their order
abbrev pub permissions : List Permission
permissions = CreateTask ∷ CancelTask ∷ ListTasks ∷ ListBots ∷ TerminateBot ∷ RunBot ∷ UseBlobs ∷ []

-- as LUCI names them in its realms; the last two are this server's own
abbrev pub permission_name : Permission → List ℕ
permission_name CreateTask = codes "swarming.pools.createTask"
permission_name CancelTask = codes "swarming.pools.cancelTask"
permission_name ListTasks = codes "swarming.pools.listTasks"
permission_name ListBots = codes "swarming.pools.listBots"
permission_name TerminateBot = codes "swarming.pools.terminateBot"
permission_name RunBot = codes "profile.pools.runBot"
permission_name UseBlobs = codes "profile.pools.useBlobs"

-- the permission of a name
unfoldable pub permission_named : List ℕ → Option Permission
permission_named name = find (λ permission. same (permission_name permission) name) permissions
