-- What stands at the targets.
use Rattle.std.specs.Prelude.{ℕ, List, [], ◌∷◌, Bool, not, ◌&&◌, ◌==◌, nat_eq, length, drop, Option, None, if◌then◌else◌, codes}
use Rattle.std.specs.List.{find, list_any, starts_with, before_first, after_first}
use Rattle.std.specs.Option.{option_map, option_map_or, option_and_then}
use Rattle.dimensions.specs.Alike.{same}
use Rattle.dimensions.specs.Choosing.{when, ◌or_else◌}
use Rattle.dimensions.specs.Rules.{is_empty}
use Rattle.routes.specs.declared.route.Route.{Route}
use Rattle.routes.specs.declared.route.Route.TheVariants.{NewTask, CancelTask, GetResult, GetStdout, ListTasks, CountTasks, GetBot, ListBots, TerminateBot, Handshake, Poll, Claim, Event, TaskUpdate, FindMissing}
use Rattle.routes.specs.declared.resource.Resource.{Resource}
use Rattle.routes.specs.declared.resource.Resource.TheVariants.{Call, Blob}

-- each target that has no part to choose and its call, in the order of the targets' bytes, in which a router holds its rows
abbrev pub routes : List (List ℕ × Route)
routes =
    (codes "/bot/claim", Claim)
    ∷ (codes "/bot/event", Event)
    ∷ (codes "/bot/handshake", Handshake)
    ∷ (codes "/bot/poll", Poll)
    ∷ (codes "/bot/task_update", TaskUpdate)
    ∷ (codes "/prpc/swarming.v2.Bots/GetBot", GetBot)
    ∷ (codes "/prpc/swarming.v2.Bots/ListBots", ListBots)
    ∷ (codes "/prpc/swarming.v2.Bots/TerminateBot", TerminateBot)
    ∷ (codes "/prpc/swarming.v2.Tasks/CancelTask", CancelTask)
    ∷ (codes "/prpc/swarming.v2.Tasks/CountTasks", CountTasks)
    ∷ (codes "/prpc/swarming.v2.Tasks/GetResult", GetResult)
    ∷ (codes "/prpc/swarming.v2.Tasks/GetStdout", GetStdout)
    ∷ (codes "/prpc/swarming.v2.Tasks/ListTasks", ListTasks)
    ∷ (codes "/prpc/swarming.v2.Tasks/NewTask", NewTask)
    ∷ []

-- the call in the first of these rows whose text is the target
abbrev pub call_in : List (List ℕ × Route) → List ℕ → Option Route
call_in rows target = option_map (λ row. row.1) (find (λ row. same row.0 target) rows)

-- ---- targets below `/blobs/`

abbrev pub is_slash : ℕ → Bool
is_slash byte = byte == 47

abbrev pub blobs : List ℕ
blobs = codes "/blobs/"

-- what follows there
abbrev pub blob_path : List ℕ → Option (List ℕ)
blob_path target = when (starts_with nat_eq target blobs) (drop (length blobs) target)

-- the name of the pool: what stands before the next slash
abbrev pub pool_part : List ℕ → List ℕ
pool_part target = option_map_or (before_first is_slash) (blob_path target) []

-- the digest of the blob: what stands after that slash
abbrev pub digest_part : List ℕ → List ℕ
digest_part target = option_map_or (after_first is_slash) (blob_path target) []

abbrev pub is_part : List ℕ → Bool
is_part text = not (is_empty text) && not (list_any is_slash text)

-- one part names a pool, two a pool and a blob
abbrev pub blob_resource : List ℕ → Option Resource
blob_resource path =
    when (is_part path) (Call FindMissing)
    or_else when (is_part (before_first is_slash path) && is_part (after_first is_slash path)) Blob

-- ---- all targets

abbrev pub is_question_mark : ℕ → Bool
is_question_mark byte = byte == 63

abbrev pub resource_in : List ℕ → Option Resource
resource_in target = option_and_then blob_resource (blob_path target) or_else option_map Call (call_in routes target)

-- what stands at a target; no query may follow it
unfoldable pub resource_of : List ℕ → Option Resource
resource_of target = if list_any is_question_mark target then None else resource_in target
