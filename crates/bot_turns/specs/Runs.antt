-- The run of a bot: turns, one after the other, up to its stop.
use Rattle.std.specs.Prelude.{◌≡◌, ℕ, ◌≤◌, Bool, true, false, not, List, [], ◌∷◌, length, Some, is_some}
use Rattle.sw_base.specs.Clock.{HandsIn}
use Rattle.bot_turns.specs.Types.{Action, BotEvent, BotLimits, BotState, Phase, Awaited, Begin, Answer, Slept, Hands}
use Rattle.bot_core.specs.declared.action.Action.TheVariants as action
use Rattle.bot_core.specs.declared.bot_event.BotEvent.TheVariants as event
use Rattle.bot_core.specs.declared.bot_state.Phase.TheVariants as phase
use Rattle.bot_core.specs.RunChanges.{most_pending}
use Rattle.bot_core.specs.States.{states_after}
use Rattle.bot_core.specs.Table.{opening, action_of, stepped, is_stop}
use Rattle.bot_turns.specs.declared.stopped.Stopped.{Stopped}
use Rattle.bot_turns.specs.Turns.{BotWorld, IsTurnOf}

-- the clock told this moment, and nothing else changed
pub record TellsMoment (a : BotWorld) (moment : ℕ) (b : BotWorld) : Type 0 where
  pub told : HandsIn a.ahead b.ahead (moment ∷ [])
  pub same : b ≡ record a { ahead = b.ahead }

-- the bot's action was carried out, the clock was read, and the bot took the event
pub record TakesTurn (s : BotState) (a : BotWorld) (e : BotEvent) (moment : ℕ) (t : BotState) (b : BotWorld) : Type 0 where
  pub acted : BotWorld
  pub turn : IsTurnOf (action_of s) e a acted
  pub tells : TellsMoment acted moment b
  pub steps : stepped s e moment ≡ Some t

-- one turn, and then the others
pub record TakesFirst (s : BotState) (a : BotWorld) (e : BotEvent × ℕ) (takes_rest : BotState → BotWorld → Type 0) : Type 0 where
  pub next : BotState
  pub mid : BotWorld
  pub turn : TakesTurn s a e.0 e.1 next mid
  pub rest : takes_rest next mid

-- turns with these events and moments
abbrev pub TakesTurns : List (BotEvent × ℕ) → BotState → BotWorld → BotState → BotWorld → Type 0
TakesTurns [] s a t b = (t ≡ s) × (b ≡ a)
TakesTurns (e ∷ es) s a t b = TakesFirst s a e (λ next mid. TakesTurns es next mid t b)

-- a bot that began at the first moment and has come so far
pub record HasTaken (limits : BotLimits) (a : BotWorld) (events : List (BotEvent × ℕ)) (s : BotState) (b : BotWorld) : Type 0 where
  pub first : ℕ
  pub begun : BotWorld
  pub start : BotState
  pub tells : TellsMoment a first begun
  pub begins : stepped (opening limits) event.Begin first ≡ Some start
  pub turns : TakesTurns events start begun s b

-- a bot ran to its stop
pub record RunsBot (limits : BotLimits) (a b : BotWorld) (stopped : Stopped) : Type 0 where
  pub events : List (BotEvent × ℕ)
  pub end : BotState
  pub taken : HasTaken limits a events end b
  pub stops : action_of end ≡ action.Stop stopped.why stopped.tasks

-- ---- the states of a run

-- the states that turns lead to, one after the other
abbrev pub states_of : (es : List (BotEvent × ℕ)) (s : BotState) (a : BotWorld) (t : BotState) (b : BotWorld) → TakesTurns es s a t b → List BotState
states_of [] s a t b turns = []
states_of (e ∷ es) s a t b turns = turns.next ∷ states_of es turns.next turns.mid t b turns.rest

-- they are those of the table, for the same events and moments
abbrev pub FollowTable : Type 0
FollowTable = (es : List (BotEvent × ℕ)) (s t : BotState) (a b : BotWorld) (turns : TakesTurns es s a t b) → states_of es s a t b turns ≡ states_after s es

-- ---- what holds between two turns

abbrev pub is_stop_action : Action → Bool
is_stop_action (action.Stop why tasks) = true
is_stop_action a = false

-- the event of an action can come: the bot has begun, and doesn't sleep before its stop
abbrev pub takes_events : Phase → Awaited → Bool
takes_events p Begin = false
takes_events p Answer = true
takes_events p (Slept secs) = not (is_stop p)

-- phases in which the bot has a run
abbrev pub has_run : Phase → Bool
has_run phase.Handshake = false
has_run phase.Poll = false
has_run phase.Claim = false
has_run (phase.Stop why) = false
has_run p = true

-- the hands hold what the bot goes on with: its run, and the output that it counts as pending
pub record HandsFit (s : BotState) (h : Hands) : Type 0 where
  pub events : takes_events s.phase s.awaited ≡ true
  pub run : has_run s.phase ≡ true → is_some h.run ≡ true
  pub pending : s.run.pending ≤ length h.pending.items
  pub room : s.run.pending ≤ most_pending
