-- The turns of a batch and a pool: the exact change of each.
use Rattle.std.specs.Prelude.{◌≡◌, ◌⊎◌, ℕ, ◌==◌, ◌&&◌, not, Bool, true, false, IsTrue, List, [], ◌∷◌, ◌++◌, length, take, slice_get, Option, Some, None, MatchOption}
use Rattle.std.specs.Bool.{MatchBool}
use Rattle.std.specs.List.{AllByRecursion}
use Rattle.std.specs.Option.{option_map_or}
use Rattle.sha2.specs.Sha256.{sha256}
use Rattle.dimensions.specs.Alike.{same}
use Rattle.json_fields.specs.Readings.{reading}
use Rattle.batch_plays.specs.Types.{Entry, Settings, Reply, Request, Told}
use Rattle.swarm_model.specs.declared.reply.Reply.TheVariants as reply
use Rattle.swarm_model.specs.declared.request.Request.TheVariants as ask
use Rattle.swarm_model.specs.declared.rule.Rule.TheVariants as rule
use Rattle.swarm_model.specs.Bases.{Base}
use Rattle.swarm_model.specs.Entries.{is_deadline}
use Rattle.swarm_model.specs.Fits.{fits}
use Rattle.swarm_model.specs.Points.{Call}
use Rattle.server_calls.specs.declared.told.Told.TheVariants as told_as
use Rattle.swarm_history.specs.Calls.{first_call}
use Rattle.swarm_history.specs.Settling.{IsPointAlone, IsOwnStop}
use Rattle.swarm_batch.specs.Batches.{BatchValue, next_line, body_data}
use Rattle.batch_plays.specs.declared.asking.Asking.{Asking}
use Rattle.batch_plays.specs.declared.asking.Asking.TheVariants as asking
use Rattle.batch_plays.specs.declared.turn.BatchTurn.{BatchTurn}
use Rattle.batch_plays.specs.declared.turn.BatchTurn.TheVariants as turn
use Rattle.batch_plays.specs.Asking.{asking_of, told_of}
use Rattle.batch_plays.specs.Saving.{marked, ReadsAgain}
use Rattle.batch_plays.specs.World.{World}

-- ---- the pool is asked

-- What was due is settled, and the request is answered; or the log has no room for the entry that comes next, and the
-- reply says so.
abbrev pub IsCalled : Base → Call → List Entry → List Entry → Reply → Type 0
IsCalled start call old new answered = IsPointAlone start call old new answered ⊎ (IsOwnStop start call old new true × (answered ≡ reply.No rule.LogFull))

-- a log grew by deadlines alone
pub record Settles (old new : List Entry) : Type 0 where
  pub settled : List Entry
  pub deadlines : AllByRecursion (λ e. IsTrue (is_deadline e.kind)) settled
  pub log : new ≡ old ++ settled

-- ---- a line is sent

-- a line whose body asks this is told its refusal, and the log stays, or what the pool replies
abbrev pub IsTold : List ℕ → Base → ℕ → Asking → List Entry → List Entry → Told → Type 0
IsTold who start moment (asking.Refused code) old new told = (new ≡ old) × (told ≡ told_as.No code [])
IsTold who start moment (asking.Asks asked) old new told =
    (answered : Reply) × IsCalled start (first_call who moment asked.request) old new answered × (told ≡ told_of answered)

-- a line of the batch comes to the pool, and is told this
pub record SendsLine (settings : Settings) (who : List ℕ) (start : Base) (b : BatchValue) (line moment : ℕ) (old new : List Entry) (told : Told) : Type 0 where
  pub body : List ℕ
  pub reads : reading body ≡ body_data b line
  pub tells : IsTold who start moment (asking_of settings who body) old new told

-- a line is sent, and marked by what it is told
pub record SendsNext (settings : Settings) (who : List ℕ) (old : World) (moment : ℕ) (new : World) (line : ℕ) : Type 0 where
  pub told : Told
  pub sent : SendsLine settings who old.start old.files.batch line moment old.log new.log told
  pub is : new ≡ record old { log = new.log; files = marked old.files told }

-- a line is sent, and what it is told is lost
pub record LosesReply (settings : Settings) (who : List ℕ) (old : World) (moment : ℕ) (new : World) (line : ℕ) : Type 0 where
  pub told : Told
  pub sent : SendsLine settings who old.start old.files.batch line moment old.log new.log told
  pub is : new ≡ record old { log = new.log }

-- this holds of the line that comes next; where every line is done, nothing changes
abbrev pub OfNext : World → World → (ℕ → Type 0) → Type 0
OfNext old new P = MatchOption (next_line old.files.batch) (new ≡ old) P

-- ---- the batch is read again

pub record Stops (saved : Bool) (old new : World) : Type 0 where
  pub reads : ReadsAgain saved old.files new.files
  pub is : new ≡ record old { files = new.files }

-- ---- another caller asks the pool

-- the bytes are those that come with the request
abbrev pub carries : Request → List ℕ → Bool
carries (ask.PutBlob named actual size) bytes = same actual (sha256 bytes) && (size == length bytes)
carries (ask.Update bot task try_no (Some chunk) last) bytes = same chunk.digest (sha256 bytes) && (chunk.size == length bytes)
carries request bytes = true

-- the only pool may be asked so
abbrev pub may_ask : Settings → Request → List ℕ → Bool
may_ask settings request bytes = option_map_or (λ pool. fits pool request) (slice_get settings.pools 0) false && carries request bytes

pub record AsksPool (old : World) (other : List ℕ) (request : Request) (moment : ℕ) (new : World) : Type 0 where
  pub answered : Reply
  pub called : IsCalled old.start (first_call other moment request) old.log new.log answered
  pub is : new ≡ record old { log = new.log }

-- a request that the pool may not be asked, and one of this caller, changes nothing
abbrev pub AsksAsOther : Settings → List ℕ → World → List ℕ → Request → List ℕ → ℕ → World → Type 0
AsksAsOther settings who old other request bytes moment new =
    MatchBool (may_ask settings request bytes && not (same other who)) (AsksPool old other request moment new) (new ≡ old)

-- ---- all turns

-- one turn of a batch of this caller, under settings with one pool
abbrev pub Turned : Settings → List ℕ → World → BatchTurn → World → Type 0
Turned settings who old (turn.Send moment) new = OfNext old new (SendsNext settings who old moment new)
Turned settings who old (turn.Lost moment) new = OfNext old new (LosesReply settings who old moment new)
Turned settings who old (turn.Stop saved) new = Stops saved old new
Turned settings who old (turn.Other other request bytes moment) new = AsksAsOther settings who old other request bytes moment new

-- one after another
abbrev pub Played : Settings → List ℕ → World → List BatchTurn → World → Type 0
Played settings who old [] new = new ≡ old
Played settings who old (t ∷ turns) new = (mid : World) × Turned settings who old t mid × Played settings who mid turns new

-- all turns were played, to this log and batch
pub record PlayedTo (settings : Settings) (who : List ℕ) (old : World) (turns : List BatchTurn) (log : List Entry) (b : BatchValue) : Type 0 where
  pub end : World
  pub played : Played settings who old turns end
  pub log_is : log ≡ end.log
  pub batch_is : b ≡ end.files.batch

-- nothing, or the reply to a line that the turn sends is lost
abbrev pub MayLose : Option BatchTurn → List BatchTurn → Type 0
MayLose next lost = (lost ≡ []) ⊎ ((moment : ℕ) × (next ≡ Some (turn.Send moment)) × (lost ≡ turn.Lost moment ∷ []))

-- The first of the turns were played. Of the next one, a line may have been sent whose reply is lost, or
-- deadlines that had come were settled; nothing else of it happened.
pub record PlayedPart (settings : Settings) (who : List ℕ) (old : World) (turns : List BatchTurn) (log : List Entry) (b : BatchValue) : Type 0 where
  pub count : ℕ
  pub lost : List BatchTurn
  pub may_lose : MayLose (slice_get turns count) lost
  pub mid : World
  pub played : Played settings who old (take count turns ++ lost) mid
  pub settles : Settles mid.log log
  pub batch_is : b ≡ mid.files.batch
