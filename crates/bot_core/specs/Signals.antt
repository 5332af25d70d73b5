-- When a run is sent signals.
use Rattle.std.specs.Prelude.{ℕ, ◌+◌, ◌≤◌, List, [], ◌∷◌, length, All, Any}
use Rattle.bot_core.specs.Types.{Action, Term, Kill, BotEvent, BotLimits}
use Rattle.bot_core.specs.declared.action.Action.TheVariants as action
use Rattle.bot_core.specs.declared.bot_event.BotEvent.TheVariants as event
use Rattle.bot_core.specs.Table.{opening, action_of}
use Rattle.bot_core.specs.States.{Step, steps_of}

-- the grace of the last run that was claimed, and the moments of its actions Signal Term and Signal Kill
pub record Signals : Type 0 where
  pub grace : ℕ
  pub terms : List ℕ
  pub kills : List ℕ

abbrev pub no_signals : Signals
no_signals = record { grace = 0; terms = []; kills = [] }

-- a run that is claimed has none yet
abbrev pub signals_at_event : BotEvent → Signals → Signals
signals_at_event (event.ClaimRun execution io grace tolerance) signals = record { grace = grace; terms = []; kills = [] }
signals_at_event e signals = signals

abbrev pub with_action : Action → ℕ → Signals → Signals
with_action (action.Signal Term) m signals = record signals { terms = m ∷ signals.terms }
with_action (action.Signal Kill) m signals = record signals { kills = m ∷ signals.kills }
with_action a m signals = signals

-- those after these steps
abbrev pub signals_after : Signals → List Step → Signals
signals_after signals [] = signals
signals_after signals (s ∷ steps) = signals_after (with_action (action_of s.after) s.moment (signals_at_event s.event signals)) steps

-- each signal is sent at most once, and Kill only where Term was sent and the grace since then is over
pub record AreInOrder (signals : Signals) : Type 0 where
  pub one_term : length signals.terms ≤ 1
  pub one_kill : length signals.kills ≤ 1
  pub grace : All (λ kill. Any (λ term. term + signals.grace ≤ kill) signals.terms) signals.kills

-- over every list of events, so at the moment of each signal too
abbrev pub KillsAfterTermAndGrace : Type 0
KillsAfterTermAndGrace =
    (limits : BotLimits) (events : List (BotEvent × ℕ)) → AreInOrder (signals_after no_signals (steps_of (opening limits) events))
