-- One bot and one pool, with all that is between them.
use Rattle.std.specs.Prelude.{◌≡◌, ℕ, ◌+◌, ◌==◌, List, [], ◌∷◌, ◌++◌, length, take, Option, Some, None, if◌then◌else◌}
use Rattle.std.specs.Option.{option_map, option_map_or}
use Rattle.sha2.specs.Sha256.{sha256}
use Rattle.bot_worlds.specs.Types.{BotDims, Action, End, BotEvent, BotLimits, BotState, Awaited, Begin, Answer, Slept, Chunk, Last, Entry, Request}
use Rattle.bot_core.specs.declared.action.Action.TheVariants as action
use Rattle.bot_core.specs.declared.bot_event.BotEvent.TheVariants as event
use Rattle.bot_core.specs.Output.{waiting_at, waiting_after}
use Rattle.bot_core.specs.Table.{opening, stepped, action_of}
use Rattle.bot_requests.specs.Bodies.{session_name, claim_name}
use Rattle.swarm_model.specs.declared.request.Request.TheVariants as ask
use Rattle.swarm_model.specs.Bases.{Base}
use Rattle.bot_worlds.specs.declared.sent.Sent.{Sent}
use Rattle.bot_worlds.specs.declared.sent.Got.{Got}
use Rattle.bot_worlds.specs.declared.child_run.ChildRun.{ChildRun}

-- The bot; where the pool's log begins, and the log; the bot's name and dimensions; the requests that it sent, and the
-- replies that the pool gave; the runs that it was told of, the newest first; the bytes of output that wait to be sent;
-- and the place of the bot's present request, also while the bot sleeps before it sends that again.
pub record WorldState : Type 0 where
  pub bot : BotState
  pub start : Base
  pub log : List Entry
  pub name : List ℕ
  pub dims : BotDims
  pub sent : List Sent
  pub got : List Got
  pub runs : List ChildRun
  pub pending : List ℕ
  pub asking : Option ℕ

-- ---- the request of an action

-- a request with which no bytes come
abbrev pub bare : Request → Sent
bare request = record { request = request; bytes = [] }

-- the chunk of a report: none where it has no bytes
abbrev pub chunk_of : ℕ → ℕ → List ℕ → Option Chunk
chunk_of start size pending = if size == 0 then None else Some (record { start = start; size = size; digest = sha256 (take size pending) })

-- the end of a run as the pool is told it, without files
abbrev pub last_of : End → Last
last_of end =
    record {
      exit_code = end.exit_code;
      duration_ms = end.duration_ms;
      hard_timeout = end.hard_timeout;
      io_timeout = end.io_timeout;
      dropped = end.dropped;
      files = [];
    }

-- a report of a run, with the first bytes that wait
abbrev pub report_of : List ℕ → ℕ → ℕ → Option End → List ℕ → ChildRun → Sent
report_of name start size last pending run =
    record {
      request = ask.Update name run.task run.try_no (chunk_of start size pending) (option_map last_of last);
      bytes = take size pending;
    }

abbrev pub newest : List ChildRun → Option ChildRun
newest [] = None
newest (run ∷ runs) = Some run

-- the request that an action sends, by the newest run
abbrev pub request_by : List ℕ → BotDims → Option ChildRun → List ℕ → Action → Option Sent
request_by name dims run pending (action.Handshake first session) = Some (bare (ask.Handshake name (session_name first session) dims []))
request_by name dims run pending action.Poll = Some (bare (ask.Poll name dims []))
request_by name dims run pending (action.Claim first session claim) = Some (bare (ask.Claim name (claim_name first session claim)))
request_by name dims run pending (action.Send start size last) = option_map (report_of name start size last pending) run
request_by name dims run pending a = None

abbrev pub request_of : List ℕ → BotDims → List ChildRun → List ℕ → Action → Option Sent
request_of name dims runs pending a = request_by name dims (newest runs) pending a

-- ---- a step of the bot

-- the runs with one that a claim was answered with
abbrev pub with_told : Option ChildRun → List ChildRun → List ChildRun
with_told None runs = runs
with_told (Some run) runs = run ∷ runs

-- the command of the newest run was started
abbrev pub with_start : List ChildRun → List ChildRun
with_start [] = []
with_start (run ∷ runs) = record run { started = run.started + 1 } ∷ runs

-- it wrote these bytes
abbrev pub with_output : List ℕ → List ChildRun → List ChildRun
with_output bytes [] = []
with_output bytes (run ∷ runs) = record run { wrote = run.wrote ++ bytes } ∷ runs

-- the runs after an event
abbrev pub runs_after : Option ChildRun → BotEvent → List ℕ → List ChildRun → List ChildRun
runs_after told (event.ClaimRun execution io grace tolerance) bytes runs = with_told told runs
runs_after told event.Started bytes runs = with_start runs
runs_after told (event.Output size) bytes runs = with_output bytes runs
runs_after told e bytes runs = runs

-- A request that is sent again is at its place; any other stands behind all.
abbrev pub sent_after : Option Sent → Option ℕ → List Sent → List Sent
sent_after None again sent = sent
sent_after (Some request) None sent = sent ++ request ∷ []
sent_after (Some request) (Some place) sent = sent

abbrev pub kept_asleep : Awaited → Option ℕ → Option ℕ
kept_asleep (Slept secs) again = again
kept_asleep Begin again = None
kept_asleep Answer again = None

-- the place of the present request then
abbrev pub asking_after : Option Sent → Awaited → Option ℕ → List Sent → Option ℕ
asking_after None awaited again sent = kept_asleep awaited again
asking_after (Some request) awaited None sent = Some (length sent)
asking_after (Some request) awaited (Some place) sent = Some place

-- the bytes that wait after an event: a look cuts them first
abbrev pub pending_after : WorldState → BotEvent → List ℕ → List ℕ
pending_after old e bytes = waiting_after e bytes (waiting_at (action_of old.bot) old.pending)

-- the request of the bot's action, by the runs and the bytes that an event leaves
abbrev pub request_after : WorldState → BotEvent → List ℕ → Option ChildRun → BotState → Option Sent
request_after old e bytes told bot = request_of old.name old.dims (runs_after told e bytes old.runs) (pending_after old e bytes) (action_of bot)

-- The world behind an event, with the bot as the event leaves it: `bytes` are those of an output, `told` is the run that a
-- claim was answered with, and `again` the place of the present request where it is to be sent again.
abbrev pub fed_world : WorldState → BotEvent → List ℕ → Option ChildRun → Option ℕ → BotState → WorldState
fed_world old e bytes told again bot =
    record old {
      bot = bot;
      sent = sent_after (request_after old e bytes told bot) again old.sent;
      runs = runs_after told e bytes old.runs;
      pending = pending_after old e bytes;
      asking = asking_after (request_after old e bytes told bot) bot.awaited again old.sent;
    }

-- the bot takes an event at a moment, where it can come; else nothing changes
abbrev pub fed : WorldState → BotEvent → ℕ → List ℕ → Option ChildRun → Option ℕ → WorldState
fed old e moment bytes told again = option_map_or (fed_world old e bytes told again) (stepped old.bot e moment) old

-- ---- the begin

-- a world whose bot has begun, with what its first action sends
abbrev pub start_world : Base → List Entry → List ℕ → BotDims → BotState → WorldState
start_world start log name dims bot =
    record {
      bot = bot;
      start = start;
      log = log;
      name = name;
      dims = dims;
      sent = sent_after (request_of name dims [] [] (action_of bot)) None [];
      got = [];
      runs = [];
      pending = [];
      asking = asking_after (request_of name dims [] [] (action_of bot)) bot.awaited None [];
    }

-- the bot began at the moment
pub record Begins (limits : BotLimits) (moment : ℕ) (start : Base) (log : List Entry) (name : List ℕ) (dims : BotDims) (w : WorldState) : Type 0 where
  pub bot : BotState
  pub steps : stepped (opening limits) event.Begin moment ≡ Some bot
  pub is : w ≡ start_world start log name dims bot
