-- A bot beside its output: the bytes that wait to be sent, and those that its command wrote.
use Rattle.std.specs.Prelude.{◌≡◌, ℕ, ◌+◌, ◌-◌, ◌≤◌, List, [], ◌∷◌, ◌++◌, length, take, drop, Option, Some, IfSome, ⊤}
use Rattle.bot_core.specs.Types.{Action, End, BotEvent, BotLimits, BotState}
use Rattle.bot_core.specs.declared.action.Action.TheVariants as action
use Rattle.bot_core.specs.declared.bot_event.BotEvent.TheVariants as event
use Rattle.bot_core.specs.RunChanges.{most_pending}
use Rattle.bot_core.specs.Table.{opening, stepped, action_of}

-- the bytes that wait are those of outputs, in order; those that the command wrote are the present run's
pub record OutputState : Type 0 where
  pub bot : BotState
  pub waiting : List ℕ
  pub wrote : List ℕ

-- an event with its moment, and with the bytes of an output
pub record OutputEvent : Type 0 where
  pub event : BotEvent
  pub moment : ℕ
  pub bytes : List ℕ

-- a Look cuts the bytes that wait to those that are pending
abbrev pub waiting_at : Action → List ℕ → List ℕ
waiting_at (action.Look room) waiting = take (most_pending - room) waiting
waiting_at a waiting = waiting

abbrev pub waiting_after : BotEvent → List ℕ → List ℕ → List ℕ
waiting_after (event.Output size) bytes waiting = waiting ++ bytes
waiting_after e bytes waiting = waiting

abbrev pub wrote_after : BotEvent → List ℕ → List ℕ → List ℕ
wrote_after (event.Output size) bytes wrote = wrote ++ bytes
wrote_after (event.ClaimRun execution io grace tolerance) bytes wrote = []
wrote_after e bytes wrote = wrote

-- the bytes are those of the output
abbrev pub HasBytes : BotEvent → List ℕ → Type 0
HasBytes (event.Output size) bytes = length bytes ≡ size
HasBytes e bytes = ⊤

-- the bot takes the event, and the bytes follow
pub record OutputStep (old : OutputState) (e : OutputEvent) (new : OutputState) : Type 0 where
  pub has_bytes : HasBytes e.event e.bytes
  pub stepped : stepped old.bot e.event e.moment ≡ Some new.bot
  pub waiting : new.waiting ≡ waiting_after e.event e.bytes (waiting_at (action_of old.bot) old.waiting)
  pub wrote : new.wrote ≡ wrote_after e.event e.bytes old.wrote

abbrev pub OutputSteps : OutputState → List OutputEvent → OutputState → Type 0
OutputSteps old [] new = new ≡ old
OutputSteps old (e ∷ events) new = (mid : OutputState) × OutputStep old e mid × OutputSteps mid events new

abbrev pub output_start : BotLimits → OutputState
output_start limits = record { bot = opening limits; waiting = []; wrote = [] }

-- an update carries the bytes of what the command wrote at the place that it names
pub record CarriesOutput (s : OutputState) (start size : ℕ) (last : Option End) : Type 0 where
  pub bytes : take size s.waiting ≡ take size (drop start s.wrote)
  pub within : start + size ≤ length s.wrote
  -- and a last one that reports nothing as dropped reaches the end of it
  pub whole : IfSome last (λ end. end.dropped ≡ 0 → start + size ≡ length s.wrote)

-- over every list of events each update, also one that is sent again, carries what the command wrote there
abbrev pub SendsWhatWasWritten : Type 0
SendsWhatWasWritten =
    (limits : BotLimits) (events : List OutputEvent) (s : OutputState) → OutputSteps (output_start limits) events s →
    (start size : ℕ) (last : Option End) → action_of s.bot ≡ action.Send start size last → CarriesOutput s start size last
