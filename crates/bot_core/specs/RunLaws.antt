-- What a bot does for a run by what is known of it: it ends it where it is asked to, reports in time, and tells why it ended it.
use Rattle.std.specs.Prelude.{◌≡◌, ◌⊎◌, ◌↔◌, ℕ, ◌+◌, ◌/◌, ◌^◌, ◌≤◌, ◌<◌, Bool, true, false, List, Option, Some, None, All, IsSomeAnd, IfSome, ⊤}
use Rattle.bot_core.specs.Types.{Action, End, Term, BotEvent, BotLimits}
use Rattle.bot_core.specs.declared.action.Action.TheVariants as action
use Rattle.bot_core.specs.declared.action.StopWhy.TheVariants as why
use Rattle.bot_core.specs.declared.bot_event.BotEvent.TheVariants as event
use Rattle.bot_core.specs.RunChanges.{most_pending, most_output}
use Rattle.bot_core.specs.Table.{opening, action_of}
use Rattle.bot_core.specs.States.{Step, states_after}
use Rattle.bot_core.specs.Histories.{History, Choice, choices_of}

-- a look that finds the command running
abbrev pub finds_running : BotEvent → Bool
finds_running (event.Output size) = true
finds_running event.Quiet = true
finds_running e = false

-- the limit of steps is reached, and the bot stops in place of another action
pub record StopsAtSteps (s : Step) : Type 0 where
  pub stops : action_of s.after ≡ action.Stop why.Steps s.before.tasks
  pub reached : s.before.limits.steps ≤ s.before.steps

-- ---- the end that is asked for

-- an update while the command runs was answered so that it is to end
abbrev pub asks_for_end : BotEvent → Action → Bool
asks_for_end (event.SendOk true) (action.Send start size None) = true
asks_for_end e a = false

abbrev pub is_look : Action → Bool
is_look (action.Look room) = true
is_look a = false

-- a look follows where the end is asked for; and where it was and Term was not sent, Term follows each look that finds the command running
pub record StopsRun (c : Choice) : Type 0 where
  pub looks : asks_for_end c.step.event (action_of c.step.before) ≡ true → (is_look (action_of c.step.after) ≡ true) ⊎ StopsAtSteps c.step
  pub terminates : finds_running c.step.event ≡ true → c.history.asked ≡ true → c.history.term ≡ None → (action_of c.step.after ≡ action.Signal Term) ⊎ StopsAtSteps c.step

-- over every list of events
abbrev pub StopsWhereAsked : Type 0
StopsWhereAsked = (limits : BotLimits) (events : List (BotEvent × ℕ)) → All StopsRun (choices_of limits events)

-- ---- updates in time

abbrev pub reports_or_signals : Action → Bool
reports_or_signals (action.Send start size last) = true
reports_or_signals (action.Signal signal) = true
reports_or_signals a = false

-- an update or a signal follows a look that finds the command running a quarter of the tolerance after the last update, unless the server takes none
abbrev pub ReportsRun : Choice → Type 0
ReportsRun c =
    finds_running c.step.event ≡ true → c.history.refused ≡ false → c.history.last_send + c.history.tolerance / 4 ≤ c.step.moment →
    (reports_or_signals (action_of c.step.after) ≡ true) ⊎ StopsAtSteps c.step

-- over every list of events
abbrev pub ReportsInTime : Type 0
ReportsInTime = (limits : BotLimits) (events : List (BotEvent × ℕ)) → All ReportsRun (choices_of limits events)

-- ---- timeouts

-- the limit is none where it is 0
abbrev pub HasReached : ℕ → ℕ → ℕ → Type 0
HasReached since limit m = (1 ≤ limit) × (since + limit ≤ m)

-- Term was sent as the command had run as long as it may, where the server had not asked for the end
abbrev pub IsForTime : History → Type 0
IsForTime h = IsSomeAnd h.term (λ t. (t.asked ≡ false) × HasReached t.started h.execution t.moment)

-- or as it had written nothing for as long as it may, though it hadn't run so long
abbrev pub IsForSilence : History → Type 0
IsForSilence h = IsSomeAnd h.term (λ t. (t.asked ≡ false) × (HasReached t.started h.execution t.moment → ⊥) × HasReached t.last_output h.io t.moment)

pub record TellsWhy (h : History) (end : End) : Type 0 where
  pub hard : (end.hard_timeout ≡ true) ↔ IsForTime h
  pub io : (end.io_timeout ≡ true) ↔ IsForSilence h

-- over every list of events each last update, also one that is sent again, tells a timeout exactly where Term was sent for it
abbrev pub TellsTimeouts : Type 0
TellsTimeouts =
    (limits : BotLimits) (events : List (BotEvent × ℕ)) →
    All (λ c. (start size : ℕ) (end : End) → action_of c.step.after ≡ action.Send start size (Some end) → TellsWhy c.history end) (choices_of limits events)

-- ---- what a server reads

-- the numbers of an update
pub record FitsServer (start size : ℕ) (last : Option End) : Type 0 where
  pub piece : size ≤ most_pending
  pub output : start + size ≤ most_output
  pub dropped : IfSome last (λ end. end.dropped ≤ 2 ^ 53)
  pub duration : IfSome last (λ end. end.duration_ms ≤ 2 ^ 40)

abbrev pub IsFittingUpdate : Action → Type 0
IsFittingUpdate (action.Send start size last) = FitsServer start size last
IsFittingUpdate a = ⊤

-- over every list of events, where the limit of steps is a number of 32 bits
abbrev pub ReportsFit : Type 0
ReportsFit = (limits : BotLimits) (events : List (BotEvent × ℕ)) → limits.steps < 2 ^ 32 → All (λ s. IsFittingUpdate (action_of s)) (states_after (opening limits) events)
