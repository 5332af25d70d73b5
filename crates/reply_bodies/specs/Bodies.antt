-- The status and the body of each reply.
use Rattle.std.specs.Prelude.{ℕ, ◌-◌, List, [], ◌∷◌, ◌++◌, take, drop, codes}
use Rattle.base64.specs.Engines.{standard}
use Rattle.base64.specs.GeneralPurpose.{encode_of}
use Rattle.serde_json.specs.Data.{Data, boolean, string, object, Members, no_members}
use Rattle.serde_json.specs.Written.{compact_text}
use Rattle.refusal_codes.specs.Codes.{code_status}
use Rattle.json_values.specs.Values.{whole, or_null, list_data}
use Rattle.swarm_model.specs.declared.task_state.TaskState.{TaskState}
use Rattle.swarm_model.specs.declared.reply.Part.{Part}
use Rattle.swarm_model.specs.declared.reply.Reply.{Reply}
use Rattle.swarm_model.specs.declared.reply.Reply.TheVariants as reply
use Rattle.swarm_model.specs.States.{state_name}
use Rattle.json_fields.specs.Ids.{shown_number, task_id}
use Rattle.reply_bodies.specs.Items.{blob_data}
use Rattle.reply_bodies.specs.Views.{task_members, task_data, bot_members, bot_data}
use Rattle.reply_bodies.specs.Commands.{run_members}
use Rattle.reply_bodies.specs.Refusals.{code_of, one, two, refusal_members}

-- that of a refusal, and 200
abbrev pub status_of : Reply → ℕ
status_of (reply.No why) = code_status (code_of why)
status_of answered = 200

-- a task's number, with the place of its pool
abbrev pub number_data : ℕ → ℕ → Data
number_data place number = whole (shown_number place number)

-- a page: its items, and where more are left what the next one is asked with
abbrev pub page_members : Data → Data → Members
page_members cursor items = two (codes "cursor") cursor (codes "items") items

-- the bytes of the parts, one after the other, each as far as its piece has them; a piece that is missing has none
abbrev pub joined : List Part → List (List ℕ) → List ℕ
joined [] pieces = []
joined (part ∷ parts) [] = []
joined (part ∷ parts) (piece ∷ pieces) = take (part.to - part.from) (drop part.from piece) ++ joined parts pieces

abbrev pub stdout_members : TaskState → List ℕ → Members
stdout_members state output = two (codes "output") (string (encode_of standard output)) (codes "state") (string (state_name state))

-- the members that a reply shows, from the pool at a place; a blob is no JSON, and has none
abbrev pub reply_members : ℕ → Reply → List (List ℕ) → Members
reply_members place (reply.New task state) pieces = two (codes "state") (string (state_name state)) (codes "task_id") (string (task_id place task))
reply_members place (reply.Canceled canceled was_running) pieces = two (codes "canceled") (boolean canceled) (codes "was_running") (boolean was_running)
reply_members place (reply.Result task) pieces = task_members place task
reply_members place (reply.Stdout state parts) pieces = stdout_members state (joined parts pieces)
reply_members place (reply.Tasks items cursor) pieces = page_members (or_null (number_data place) cursor) (list_data (task_data place) items)
reply_members place (reply.Count count) pieces = one (codes "count") (whole count)
reply_members place (reply.Shaken bot) pieces = one (codes "bot_id") (string bot)
reply_members place (reply.Sleep secs) pieces = two (codes "cmd") (string (codes "sleep")) (codes "duration") (whole secs)
reply_members place reply.ClaimHint pieces = one (codes "cmd") (string (codes "claim"))
reply_members place reply.Terminate pieces = one (codes "cmd") (string (codes "terminate"))
reply_members place (reply.Run task try_no slice tolerance properties) pieces = run_members place (task, try_no) slice tolerance properties
reply_members place reply.Skip pieces = one (codes "cmd") (string (codes "skip"))
reply_members place reply.Noted pieces = no_members
reply_members place (reply.Updated must_stop) pieces = one (codes "must_stop") (boolean must_stop)
reply_members place reply.Terminating pieces = no_members
reply_members place (reply.Bots items cursor) pieces = page_members (or_null string cursor) (list_data (bot_data place) items)
reply_members place (reply.Bot bot) pieces = bot_members place bot
reply_members place (reply.Put fresh) pieces = one (codes "fresh") (boolean fresh)
reply_members place (reply.Blob digest size) pieces = no_members
reply_members place (reply.Missing blobs) pieces = one (codes "blobs") (list_data blob_data blobs)
reply_members place (reply.No why) pieces = refusal_members place why

abbrev pub first_piece : List (List ℕ) → List ℕ
first_piece [] = []
first_piece (piece ∷ pieces) = piece

-- the body of a reply: the bytes of a blob, and JSON of all others
unfoldable pub body_of : ℕ → Reply → List (List ℕ) → List ℕ
body_of place (reply.Blob digest size) pieces = first_piece pieces
body_of place answered pieces = compact_text (object (reply_members place answered pieces))

-- how the body of a reply is to be read
abbrev pub content_type_of : Reply → List ℕ
content_type_of (reply.Blob digest size) = codes "application/octet-stream"
content_type_of answered = codes "application/json"
