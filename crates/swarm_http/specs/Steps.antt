-- One request of a connection.
use Rattle.std.specs.Prelude.{◌≡◌, ◌≢◌, ℕ, ◌+◌, ◌^◌, Bool, if◌then◌else◌, ◌≤◌, List, [], ◌∷◌, length, false, Option, None, Result, Err}
use Rattle.std.specs.List.{count_by}
use Rattle.httparse.specs.Grammar.{RequestHead}
use Rattle.sw_base.specs.Clock.{HandsIn}
use Rattle.sw_base.specs.Link.{LinkState, IsClean, NoFault}
use Rattle.swarm_http.specs.Types.{Settings, Rule}
use Rattle.swarm_model.specs.declared.reply.Reply.TheVariants as reply
use Rattle.swarm_model.specs.declared.rule.Rule.TheVariants as rule
use Rattle.reply_bodies.specs.Bodies.{status_of}
use Rattle.pool_doors.specs.Doors.{DoorState}
use Rattle.swarm_http.specs.declared.ended.Ended.{Ended}
use Rattle.swarm_http.specs.declared.ended.Ended.TheVariants.{Retired}
use Rattle.swarm_http.specs.declared.connection.Step.{Step}
use Rattle.swarm_http.specs.declared.connection.Step.TheVariants.{Next, End}
use Rattle.swarm_http.specs.declared.reply.ReplyBytes.{ReplyBytes}
use Rattle.swarm_http.specs.Replies.{Shown, refusal}
use Rattle.swarm_http.specs.Sends.{status_in, shown_in}
use Rattle.swarm_http.specs.Outcomes.{Outcome, Acts, CountsStop, answer_of, shown_of, moments_used}
use Rattle.swarm_http.specs.Served.{Served, reply_bytes, closes, is_accepted}
use Rattle.swarm_http.specs.Endings.{Transfers, EndsAs, EndsAtFault}
use Rattle.swarm_http.specs.Conversing.{Does, DoesEach}
use Rattle.swarm_http.specs.Answered.{KeepsDoor}

-- a request with this head and body has a reply of this status and these bytes, between two states of the clock and of the door
pub record Answers (head : RequestHead) (body : List ℕ) (status : ℕ) (shown : Shown) (a b : ℕ → Option (List ℕ)) (old new : DoorState) : Type 0 where
  pub outcome : Outcome
  pub acts : Acts old.settings old.writer head body outcome old.seen new.seen
  pub moments : HandsIn a b (moments_used outcome)
  pub keeper : CountsStop outcome old.faults new.faults
  pub status_is : status ≡ status_of (answer_of outcome)
  pub shown_is : shown ≡ shown_of outcome

-- it is answered so by one call of the door at most
pub record AnswersByDoor (head : RequestHead) (body : List ℕ) (status : ℕ) (shown : Shown) (a b : ℕ → Option (List ℕ)) (old new : DoorState) : Type 0 where
  pub answers : Answers head body status shown a b old new
  pub door : KeepsDoor 1 old new

-- the door has these settings, and may be called so often
pub record MayCall (settings : Settings) (most : ℕ) (door : DoorState) : Type 0 where
  pub settings_are : door.settings ≡ settings
  pub calls : door.calls + most ≤ 2 ^ 40

-- the reply is the refusal for the request's rule, or that for want of memory
pub data IsRejection {A : Type 0} (shown : ReplyBytes) (asked : Result A Rule) : Type 0 where
  by_rule : (why : Rule) → asked ≡ Err why → status_in shown ≡ status_of (reply.No why) → shown_in shown ≡ refusal None why → IsRejection shown asked
  by_memory : status_in shown ≡ status_of (reply.No rule.WantOfMemory) → shown_in shown ≡ refusal None rule.WantOfMemory → IsRejection shown asked

-- one request was answered, and its reply written and flushed
pub record GoesOn {S : Type 0} (does : Does S) (pending rest : List ℕ) (old new : S) (s t : LinkState) : Type 0 where
  pub x : Served
  pub open_still : closes x ≡ false
  pub transfers : Transfers (x ∷ []) pending rest (reply_bytes x) s t
  pub each : DoesEach does old (x ∷ []) new
  pub no_fault : NoFault s t
  pub clean : IsClean t

-- the connection ends so, after one request more or none
pub record Stops {S : Type 0} (does : Does S) (pending : List ℕ) (old new : S) (s t : LinkState) (ended : Ended) : Type 0 where
  pub xs : List Served
  pub rest : List ℕ
  pub sent : List ℕ
  pub transfers : Transfers xs pending rest sent s t
  pub each : DoesEach does old xs new
  pub ends : EndsAs 1 ended xs rest sent s t
  pub few : length xs ≤ 1
  pub faults : EndsAtFault ended s t
  pub not_retired : ended ≢ Retired

-- 1 where it is true
abbrev pub count_of : Bool → ℕ
count_of test = if test then 1 else 0

-- so many requests were answered, and so many of them with status 200: one, or none
pub record AreCounted (xs : List Served) (asked accepted : Bool) : Type 0 where
  pub requests : count_of asked ≡ length xs
  pub accepted_are : count_of accepted ≡ count_by is_accepted xs

-- the connection goes on, or ends
abbrev pub IsStep : {S : Type 0} → Does S → List ℕ → List ℕ → S → S → LinkState → LinkState → Step → Type 0
IsStep does pending rest old new s t (Next accepted) = (goes : GoesOn does pending rest old new s t) × (accepted ≡ is_accepted goes.x)
IsStep does pending rest old new s t (End ended asked accepted) = (stops : Stops does pending old new s t ended) × AreCounted stops.xs asked accepted
