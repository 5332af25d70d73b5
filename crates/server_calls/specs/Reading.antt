-- What the bytes of a reply tell.
use Rattle.std.specs.Prelude.{ℕ, ◌==◌, List, [], Option, Some, None, if◌then◌else◌, Result, Ok, Err}
use Rattle.serde_json.specs.Data.{Data}
use Rattle.server_calls.specs.Types.{WrongType, PropFault, Broken, Route}
use Rattle.routes.specs.declared.route.Route.TheVariants as route
use Rattle.json_fields.specs.Readings.{reading}
use Rattle.server_calls.specs.declared.told.Told.{Told}
use Rattle.server_calls.specs.Tasks.{new_in, canceled_in, result_in, stdout_in, count_in}
use Rattle.server_calls.specs.Pages.{tasks_in, bots_in}
use Rattle.server_calls.specs.Bots.{bot_in, shaken_in, terminating_in, noted_in, updated_in}
use Rattle.server_calls.specs.Commands.{polled_in, claimed_in}
use Rattle.server_calls.specs.Blobs.{missing_in, put_in, blob_of}
use Rattle.server_calls.specs.Refusals.{refusal_in}

abbrev pub told_or_none : Result Told PropFault → Option Told
told_or_none (Ok told) = Some told
told_or_none (Err broken) = None

-- what is read of the value that a body is
abbrev pub in_value : (Data → Result Told PropFault) → Option Data → Option Told
in_value read None = None
in_value read (Some d) = told_or_none (read d)

-- what the value of a body tells of the call of a route; a blob is told by no value
abbrev pub value_in : Route → Data → Result Told PropFault
value_in route.NewTask d = new_in d
value_in route.CancelTask d = canceled_in d
value_in route.GetResult d = result_in d
value_in route.GetStdout d = stdout_in d
value_in route.ListTasks d = tasks_in d
value_in route.CountTasks d = count_in d
value_in route.GetBot d = bot_in d
value_in route.ListBots d = bots_in d
value_in route.TerminateBot d = terminating_in d
value_in route.Handshake d = shaken_in d
value_in route.Poll d = polled_in d
value_in route.Claim d = claimed_in d
value_in route.Event d = noted_in d
value_in route.TaskUpdate d = updated_in d
value_in route.FindMissing d = missing_in d
value_in route.PutBlob d = put_in d
value_in route.GetBlob d = Err (Broken [] WrongType)

-- a reply of the status 200
abbrev pub good_of : Route → List ℕ → Option Told
good_of route.GetBlob body = blob_of body
good_of call body = in_value (value_in call) (reading body)

-- a reply of any other status
abbrev pub refusal_of : List ℕ → Option Told
refusal_of body = in_value (refusal_in body) (reading body)

-- what a reply of a status tells of the call of a route, where it is a reply of this profile
unfoldable pub told_of : Route → ℕ → List ℕ → Option Told
told_of call status body = if status == 200 then good_of call body else refusal_of body
