-- The turns of a world: the exact change of each.
use Rattle.std.specs.Prelude.{◌≡◌, ℕ, ◌==◌, ◌&&◌, not, Bool, false, IsTrue, List, [], ◌∷◌, ◌++◌, length, take, slice_get, Option, Some, None, MatchOption, if◌then◌else◌}
use Rattle.std.specs.Bool.{MatchBool}
use Rattle.std.specs.List.{AllByRecursion}
use Rattle.std.specs.Option.{option_map_or}
use Rattle.refusal_codes.specs.Codes.{code_number}
use Rattle.bot_worlds.specs.Types.{BotEvent, Entry, Reply, Request}
use Rattle.bot_core.specs.declared.bot_event.BotEvent.TheVariants as event
use Rattle.bot_core.specs.Table.{is_transient}
use Rattle.reply_bodies.specs.Refusals.{code_of}
use Rattle.swarm_model.specs.declared.reply.Reply.TheVariants as reply
use Rattle.swarm_model.specs.declared.request.Request.TheVariants as ask
use Rattle.swarm_model.specs.Bases.{Base}
use Rattle.swarm_model.specs.Entries.{is_deadline}
use Rattle.swarm_model.specs.History.{IsLegal}
use Rattle.bot_worlds.specs.declared.child_run.ChildRun.{ChildRun}
use Rattle.bot_worlds.specs.declared.sent.Got.{Got}
use Rattle.bot_worlds.specs.declared.turn.ChildTurn.{ChildTurn}
use Rattle.bot_worlds.specs.declared.turn.ChildTurn.TheVariants as child
use Rattle.bot_worlds.specs.declared.turn.Turn.{Turn}
use Rattle.bot_worlds.specs.declared.turn.Turn.TheVariants as turn
use Rattle.bot_worlds.specs.Pool.{IsCalled, call_by, is_of_bot, may_ask}
use Rattle.bot_worlds.specs.World.{WorldState, fed}

-- ---- the pool is asked

-- the pool takes a request, and gives a reply, by which the replies are those of `got`
pub record Asks (old : WorldState) (who : List ℕ) (request : Request) (moment : ℕ) (got : Reply → List Got) (new : WorldState) : Type 0 where
  pub answered : Reply
  pub called : IsCalled old.start (call_by who moment request) old.log new.log answered
  pub is : new ≡ record old { log = new.log; got = got answered }

-- this holds where the pool may be asked so; else nothing changes
abbrev pub AsksWhere : Bool → WorldState → List ℕ → Request → ℕ → (Reply → List Got) → WorldState → Type 0
AsksWhere may old who request moment got new = MatchBool may (Asks old who request moment got new) (new ≡ old)

-- the replies with one more, to the request at this place
abbrev pub with_reply : WorldState → ℕ → Reply → List Got
with_reply w place answered = w.got ++ record { sent = place; reply = answered } ∷ []

-- a request of the bot comes to the pool
abbrev pub Delivers : WorldState → ℕ → ℕ → WorldState → Type 0
Delivers old place moment new =
    MatchOption (slice_get old.sent place) (new ≡ old)
    (λ s. AsksWhere (may_ask old s.request s.bytes) old old.name s.request moment (with_reply old place) new)

-- a request of another caller does; its reply is not kept
abbrev pub AsksAsOther : WorldState → List ℕ → Request → List ℕ → ℕ → WorldState → Type 0
AsksAsOther old who request bytes moment new =
    AsksWhere (may_ask old request bytes && not (is_of_bot old.name request)) old who request moment (λ answered. old.got) new

-- ---- the bot takes a reply

-- the event that a reply to a bot is
abbrev pub reply_event : Reply → Option BotEvent
reply_event (reply.Shaken bot) = Some event.HandshakeOk
reply_event (reply.Sleep secs) = Some (event.PollSleep secs)
reply_event reply.ClaimHint = Some event.PollClaim
reply_event reply.Terminate = Some event.PollTerminate
reply_event (reply.Run task try_no slice tolerance p) = Some (event.ClaimRun p.execution_timeout_secs p.io_timeout_secs p.grace_period_secs tolerance)
reply_event reply.Skip = Some event.ClaimSkip
reply_event (reply.Updated must_stop) = Some (event.SendOk must_stop)
reply_event (reply.No why) = Some (event.Refused (code_number (code_of why)))
reply_event other = None

-- the run that a claim was answered with
abbrev pub told_run : Request → Reply → Option ChildRun
told_run (ask.Claim bot claim) (reply.Run task try_no slice tolerance p) =
    Some (record { claim = claim; task = task; try_no = try_no; started = 0; wrote = [] })
told_run request answered = None

abbrev pub told_by : WorldState → Got → Option ChildRun
told_by w g = option_map_or (λ s. told_run s.request g.reply) (slice_get w.sent g.sent) None

-- the present request stays at its place where it is to be sent again
abbrev pub asked_again : BotEvent → Option ℕ → Option ℕ
asked_again e asking = if is_transient e then asking else None

abbrev pub is_present : Option ℕ → ℕ → Bool
is_present None place = false
is_present (Some present) place = present == place

abbrev pub hear : WorldState → ℕ → Got → BotEvent → WorldState
hear w moment g e = fed w e moment [] (told_by w g) (asked_again e w.asking)

-- a reply to any other than the present request changes nothing
abbrev pub take_reply : WorldState → ℕ → Got → WorldState
take_reply w moment g = if is_present w.asking g.sent then option_map_or (hear w moment g) (reply_event g.reply) w else w

abbrev pub answered : WorldState → ℕ → ℕ → WorldState
answered w place moment = option_map_or (take_reply w moment) (slice_get w.got place) w

-- ---- the bot hears of its command

abbrev pub child_event : ChildTurn → BotEvent
child_event child.Prepared = event.Prepared
child_event child.Started = event.Started
child_event (child.Output bytes) = event.Output (length bytes)
child_event child.Quiet = event.Quiet
child_event (child.Ended code) = event.Ended code
child_event child.Signalled = event.Signalled
child_event child.Uploaded = event.Uploaded
child_event child.Cleaned = event.Cleaned
child_event child.Failed = event.RunnerFailed

abbrev pub child_bytes : ChildTurn → List ℕ
child_bytes (child.Output bytes) = bytes
child_bytes other = []

abbrev pub heard_child : WorldState → ChildTurn → ℕ → WorldState
heard_child w c moment = fed w (child_event c) moment (child_bytes c) None None

-- ---- all turns

abbrev pub Turned : WorldState → Turn → WorldState → Type 0
Turned old (turn.Deliver sent moment) new = Delivers old sent moment new
Turned old (turn.Answer got moment) new = new ≡ answered old got moment
Turned old (turn.Lose moment) new = new ≡ fed old event.Lost moment [] None old.asking
Turned old (turn.Wake moment) new = new ≡ fed old event.Slept moment [] None old.asking
Turned old (turn.Child c moment) new = new ≡ heard_child old c moment
Turned old (turn.Other who request bytes moment) new = AsksAsOther old who request bytes moment new

-- one after another
abbrev pub Played : WorldState → List Turn → WorldState → Type 0
Played old [] new = new ≡ old
Played old (t ∷ turns) new = (mid : WorldState) × Turned old t mid × Played mid turns new

-- a log grew by deadlines alone, and is legal
pub record Settles (start : Base) (old new : List Entry) : Type 0 where
  pub settled : List Entry
  pub deadlines : AllByRecursion (λ e. IsTrue (is_deadline e.kind)) settled
  pub legal : IsLegal start.rows new
  pub log : new ≡ old ++ settled

-- deadlines that had come were settled, and nothing else happened
pub record IsSettledFrom (old new : WorldState) : Type 0 where
  pub settles : Settles old.start old.log new.log
  pub is : new ≡ record old { log = new.log }

-- the first of the turns were played, and then at most deadlines were settled
pub record PlayedPart (old : WorldState) (turns : List Turn) (new : WorldState) : Type 0 where
  pub count : ℕ
  pub mid : WorldState
  pub played : Played old (take count turns) mid
  pub settled : IsSettledFrom mid new
