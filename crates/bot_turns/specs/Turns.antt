-- What one turn of a bot does: one action, carried out.
use Rattle.std.specs.Prelude.{◌≡◌, ℕ, ◌≤◌, List, length, Option, IsSome, ⊤}
use Rattle.sw_base.specs.Clock.{Waits}
use Rattle.sw_base.specs.Dialers.{DialerState}
use Rattle.runners.specs.Calls.{RunnerState}
use Rattle.bot_turns.specs.Types.{Action, BotEvent, Hands}
use Rattle.bot_core.specs.declared.action.Action.TheVariants as action
use Rattle.bot_core.specs.declared.bot_event.BotEvent.TheVariants as event
use Rattle.bot_core.specs.RunChanges.{most_pending}
use Rattle.bot_turns.specs.ServerTurns.{IsHandshakeTurn, IsPollTurn, IsClaimTurn, IsSendTurn}
use Rattle.bot_turns.specs.Inputs.{IsPrepareTurn}
use Rattle.bot_turns.specs.Outputs.{IsUploadTurn}
use Rattle.bot_turns.specs.CacheTurns.{IsCleanUpTurn}
use Rattle.bot_turns.specs.ChildTurns.{IsStartTurn, IsLookTurn, IsSignalTurn}

-- what a bot works with, and what its dialer, its runner and its clock tell
pub record BotWorld : Type 0 where
  pub hands : Hands
  pub dialer : DialerState
  pub runner : RunnerState
  pub ahead : ℕ → Option (List ℕ)
  pub waited : Option ℕ

abbrev pub bot_world : Hands → DialerState → RunnerState → (ℕ → Option (List ℕ)) → Option ℕ → BotWorld
bot_world hands dialer runner ahead waited = record { hands = hands; dialer = dialer; runner = runner; ahead = ahead; waited = waited }

-- what an action needs of the hands: a run, and for a report so many pending bytes
abbrev pub CanAct : Action → Hands → Type 0
CanAct action.Prepare h = IsSome h.run
CanAct action.Start h = IsSome h.run
CanAct (action.Look room) h = room ≤ most_pending
CanAct (action.Send start size last) h = IsSome h.run × (size ≤ length h.pending.items)
CanAct action.Upload h = IsSome h.run
CanAct action.CleanUp h = IsSome h.run
CanAct (action.Stop why tasks) h = ⊥
CanAct a h = ⊤

-- an action was carried out and had this event; all else is as it was
abbrev pub IsTurnOf : Action → BotEvent → BotWorld → BotWorld → Type 0
IsTurnOf (action.Handshake first session) e a b =
    IsHandshakeTurn first session a.hands e a.dialer b.dialer × (b ≡ record a { dialer = b.dialer })
IsTurnOf action.Poll e a b =
    IsPollTurn a.hands e a.dialer b.dialer × (b ≡ record a { dialer = b.dialer })
IsTurnOf (action.Claim first session claim) e a b =
    IsClaimTurn first session claim a.hands e a.dialer b.dialer b.hands × (b ≡ record a { hands = b.hands; dialer = b.dialer })
IsTurnOf action.Prepare e a b =
    IsPrepareTurn a.hands e a.dialer b.dialer a.runner b.runner b.hands × (b ≡ record a { hands = b.hands; dialer = b.dialer; runner = b.runner })
IsTurnOf action.Start e a b =
    IsStartTurn a.hands e a.runner b.runner × (b ≡ record a { runner = b.runner })
IsTurnOf (action.Look room) e a b =
    IsLookTurn room e a.hands.pending.items b.hands.pending.items a.runner b.runner
    × (b ≡ record a { hands = record a.hands { pending = b.hands.pending }; runner = b.runner })
IsTurnOf (action.Sleep secs) e a b =
    (e ≡ event.Slept) × Waits a.waited b.waited secs × (b ≡ record a { ahead = b.ahead; waited = b.waited })
IsTurnOf (action.Signal signal) e a b =
    IsSignalTurn signal e a.runner b.runner × (b ≡ record a { runner = b.runner })
IsTurnOf (action.Send start size last) e a b =
    IsSendTurn start size last a.hands e a.dialer b.dialer × (b ≡ record a { dialer = b.dialer })
IsTurnOf action.Upload e a b =
    IsUploadTurn a.hands e a.dialer b.dialer a.runner b.runner b.hands × (b ≡ record a { hands = b.hands; dialer = b.dialer; runner = b.runner })
IsTurnOf action.CleanUp e a b =
    IsCleanUpTurn a.hands e a.runner b.runner b.hands × (b ≡ record a { hands = b.hands; runner = b.runner })
IsTurnOf (action.Stop why tasks) e a b = ⊥
