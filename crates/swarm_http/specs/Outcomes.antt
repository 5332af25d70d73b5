-- How one request is answered.
use Rattle.std.specs.Prelude.{◌≡◌, ◌==◌, ℕ, ◌≤◌, Bool, true, false, List, [], ◌∷◌, map, slice_get, Some, None, Result, Ok, Err, IsSomeAnd, if◌then◌else◌}
use Rattle.std.specs.Bool.{MatchBool}
use Rattle.httparse.specs.Grammar.{RequestHead}
use Rattle.request_head.specs.HeadFields.{after_of}
use Rattle.sw_base.specs.Faults.{Rose}
use Rattle.swarm_http.specs.Types.{Settings, Entry, Reply, Rule, Answered, CallFault}
use Rattle.swarm_model.specs.declared.reply.Reply.TheVariants as reply
use Rattle.swarm_model.specs.declared.rule.Rule.TheVariants as rule
use Rattle.swarm_model.specs.Points.{Call, Growth, added}
use Rattle.pool_doors.specs.declared.door.CallFault.TheVariants as stop
use Rattle.pool_doors.specs.Doors.{Logs, Elsewhere, IsPoolCall, Writer}
use Rattle.swarm_http.specs.Requests.{CallerRequest, request_of, front_of}
use Rattle.swarm_http.specs.Replies.{Shown, shown, refusal}

-- a call of the door for a request: who asks for what, at what moment, and the entries that the log of its pool gains
pub record DoorCall : Type 0 where
  pub asks : CallerRequest
  pub moment : ℕ
  pub growth : Growth

-- the place of its pool
abbrev pub called_place : DoorCall → ℕ
called_place call = call.asks.asked.place

-- the entries that it adds to the log of the pool at a place: those of the deadlines that had come, then the request's own
abbrev pub entries_at : ℕ → DoorCall → List Entry
entries_at place call = if called_place call == place then added call.growth else []

-- the request was refused before any call; a call answered; a call stopped; there was no memory
-- before any call; a call answered, and there was no memory for its reply
pub data Outcome : Type 0 where
  rejected : Rule → Outcome
  answered : DoorCall → Answered → Outcome
  aborted : DoorCall → CallFault → Outcome
  no_body_memory : Outcome
  no_reply_memory : DoorCall → Answered → Outcome

-- the refusal of a request whose call stopped
abbrev pub stop_rule : CallFault → Rule
stop_rule stop.Memory = rule.WantOfMemory
stop_rule stop.LogFull = rule.LogFull
stop_rule stop.Keeper = rule.KeeperFault

-- the call was stopped by what keeps its pool's records
abbrev pub is_keeper_stop : Outcome → Bool
is_keeper_stop (rejected why) = false
is_keeper_stop (answered call result) = false
is_keeper_stop (aborted call stop.Memory) = false
is_keeper_stop (aborted call stop.LogFull) = false
is_keeper_stop (aborted call stop.Keeper) = true
is_keeper_stop no_body_memory = false
is_keeper_stop (no_reply_memory call result) = false

-- the door's count of faults never falls, and rises where a keeper stopped the call
abbrev pub CountsStop : Outcome → ℕ → ℕ → Type 0
CountsStop outcome before now = MatchBool (is_keeper_stop outcome) (Rose before now) (before ≤ now)

-- the reply
abbrev pub answer_of : Outcome → Reply
answer_of (rejected why) = reply.No why
answer_of (answered call result) = result.reply
answer_of (aborted call why) = reply.No (stop_rule why)
answer_of no_body_memory = reply.No rule.WantOfMemory
answer_of (no_reply_memory call result) = reply.No rule.WantOfMemory

-- the bytes of the reply; X-Swarming-Front stands there exactly where a call answered
abbrev pub shown_of : Outcome → Shown
shown_of (rejected why) = refusal None why
shown_of (answered call result) = shown (called_place call) (Some result.front) result.reply result.pieces
shown_of (aborted call why) = refusal None (stop_rule why)
shown_of no_body_memory = refusal None rule.WantOfMemory
shown_of (no_reply_memory call result) = refusal (Some result.front) rule.WantOfMemory

-- the calls of the door: one, or none
abbrev pub calls : Outcome → List DoorCall
calls (rejected why) = []
calls (answered call result) = call ∷ []
calls (aborted call why) = call ∷ []
calls no_body_memory = []
calls (no_reply_memory call result) = call ∷ []

-- the moments that it used: one for each call
abbrev pub moments_used : Outcome → List ℕ
moments_used outcome = map (λ call. call.moment) (calls outcome)

-- the call as the door's pool takes it
abbrev pub call_of : Writer → RequestHead → DoorCall → Call
call_of writer head call =
    record { pass = writer.numbers (called_place call); caller = call.asks.who; moment = call.moment; after = front_of (after_of head); request = call.asks.asked.request }

-- the head and the body mean this request, its pool was called for it, and every other pool's log is as before
pub record IsCalled (settings : Settings) (writer : Writer) (head : RequestHead) (body : List ℕ) (call : DoorCall) (result : Result Answered CallFault) (old new : Logs) : Type 0 where
  pub means : request_of settings head body ≡ Ok call.asks
  pub done : IsSomeAnd (slice_get settings.pools (called_place call))
      (λ pool. IsPoolCall (writer.starts (called_place call)) writer.alone (call_of writer head call) (old (called_place call)) (new (called_place call)) call.growth result)
  pub elsewhere : Elsewhere (called_place call) old new

-- what a request with this head and body does to the logs
abbrev pub Acts : Settings → Writer → RequestHead → List ℕ → Outcome → Logs → Logs → Type 0
Acts settings writer head body (rejected why) old new = (request_of settings head body ≡ Err why) × (new ≡ old)
Acts settings writer head body (answered call result) old new = IsCalled settings writer head body call (Ok result) old new
Acts settings writer head body (aborted call why) old new = IsCalled settings writer head body call (Err why) old new
Acts settings writer head body no_body_memory old new = new ≡ old
Acts settings writer head body (no_reply_memory call result) old new = IsCalled settings writer head body call (Ok result) old new
