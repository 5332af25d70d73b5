-- What a reader is told of a reply that was shown.
use Rattle.std.specs.Prelude.{◌≡◌, ℕ, ◌||◌, ⊤, Bool, true, false, List, [], ◌∷◌, length, Some, is_some, if◌then◌else◌}
use Rattle.std.specs.List.{list_any}
use Rattle.sha2.specs.Sha256.{sha256}
use Rattle.wire_laws.specs.Types.{BotView, Reply, Route}
use Rattle.swarm_model.specs.declared.reply.Reply.TheVariants as reply
use Rattle.routes.specs.declared.route.Route.TheVariants as route
use Rattle.reply_bodies.specs.Refusals.{code_of}
use Rattle.reply_bodies.specs.Bodies.{status_of, body_of, joined, first_piece}
use Rattle.server_calls.specs.declared.told.Told.{Told}
use Rattle.server_calls.specs.declared.told.Told.TheVariants.{Good, No}
use Rattle.server_calls.specs.Reading.{told_of}
use Rattle.wire_laws.specs.Fitting.{FitsPlace}

-- the place of the pool, where an id in the reply names it, and else 0
abbrev pub if_named : Bool → ℕ → ℕ
if_named named place = if named then place else 0

abbrev pub has_some : {A : Type 0} → List A → Bool
has_some [] = false
has_some (x ∷ xs) = true

abbrev pub has_run : BotView → Bool
has_run bot = is_some bot.task_id

abbrev pub told_place : ℕ → Reply → ℕ
told_place place (reply.New task state) = place
told_place place (reply.Result task) = place
told_place place (reply.Run task try_no slice tolerance properties) = place
told_place place (reply.Tasks items cursor) = if_named (is_some cursor || has_some items) place
told_place place (reply.Bot bot) = if_named (has_run bot) place
told_place place (reply.Bots items cursor) = if_named (list_any has_run items) place
told_place place other = 0

-- A refusal is told by its code and its body, an output by its bytes and without its parts, and a blob
-- by the digest and the size of its bytes. Any other reply is told as it is.
abbrev pub told_by : ℕ → Reply → List (List ℕ) → Told
told_by place (reply.No why) pieces = No (code_of why) (body_of place (reply.No why) pieces)
told_by place (reply.Stdout state parts) pieces = Good 0 (reply.Stdout state []) (joined parts pieces)
told_by place (reply.Blob digest size) pieces = Good 0 (reply.Blob (sha256 (first_piece pieces)) (length (first_piece pieces))) (first_piece pieces)
told_by place answered pieces = Good (told_place place answered) answered []

-- the call that a reply answers; a refusal answers any
abbrev pub Answers : Route → Reply → Type 0
Answers call (reply.New task state) = call ≡ route.NewTask
Answers call (reply.Canceled canceled was_running) = call ≡ route.CancelTask
Answers call (reply.Result task) = call ≡ route.GetResult
Answers call (reply.Stdout state parts) = call ≡ route.GetStdout
Answers call (reply.Tasks items cursor) = call ≡ route.ListTasks
Answers call (reply.Count count) = call ≡ route.CountTasks
Answers call (reply.Shaken bot) = call ≡ route.Handshake
Answers call (reply.Sleep secs) = call ≡ route.Poll
Answers call reply.ClaimHint = call ≡ route.Poll
Answers call reply.Terminate = call ≡ route.Poll
Answers call (reply.Run task try_no slice tolerance properties) = call ≡ route.Claim
Answers call reply.Skip = call ≡ route.Claim
Answers call reply.Noted = call ≡ route.Event
Answers call (reply.Updated must_stop) = call ≡ route.TaskUpdate
Answers call reply.Terminating = call ≡ route.TerminateBot
Answers call (reply.Bots items cursor) = call ≡ route.ListBots
Answers call (reply.Bot bot) = call ≡ route.GetBot
Answers call (reply.Put fresh) = call ≡ route.PutBlob
Answers call (reply.Blob digest size) = call ≡ route.GetBlob
Answers call (reply.Missing blobs) = call ≡ route.FindMissing
Answers call (reply.No why) = ⊤

-- what the reader of a call is told of the status and the body of a reply of the pool at a place
abbrev pub IsTold : Route → ℕ → Reply → List (List ℕ) → Type 0
IsTold call place r pieces = told_of call (status_of r) (body_of place r pieces) ≡ Some (told_by place r pieces)

-- each reply to a call is told, where all that its body shows fits its place
abbrev pub RepliesAreTold : Type 0
RepliesAreTold = (call : Route) (place : ℕ) (r : Reply) (pieces : List (List ℕ)) → Answers call r → FitsPlace place r pieces → IsTold call place r pieces
