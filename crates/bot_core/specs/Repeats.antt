-- What follows a request whose answer was lost, or that the server couldn't act on.
use Rattle.std.specs.Prelude.{◌≡◌, ◌⊎◌, ℕ, ◌+◌, ◌≤◌, Bool, true, false, Some}
use Rattle.bot_core.specs.Types.{Action, BotEvent, BotState}
use Rattle.bot_core.specs.declared.action.Action.TheVariants as action
use Rattle.bot_core.specs.declared.action.StopWhy.TheVariants as why
use Rattle.bot_core.specs.declared.bot_event.BotEvent.TheVariants as event
use Rattle.bot_core.specs.Table.{stepped, action_of, is_transient}

-- an action that sends requests
abbrev pub is_request : Action → Bool
is_request (action.Handshake first session) = true
is_request action.Poll = true
is_request (action.Claim first session claim) = true
is_request action.Prepare = true
is_request (action.Send start size last) = true
is_request action.Upload = true
is_request a = false

-- the bot has stopped in place of an action, at its limit of polls or of steps
abbrev pub StopsAtLimit : BotState → Action → Type 0
StopsAtLimit s a =
    ((a ≡ action.Stop why.Polls s.tasks) × (s.limits.polls ≤ s.polls)) ⊎ ((a ≡ action.Stop why.Steps s.tasks) × (s.limits.steps ≤ s.steps + 1))

-- it sleeps for five seconds, and then does the same again
pub record IsRepeated (s t u : BotState) : Type 0 where
  pub sleeps : action_of t ≡ action.Sleep 5
  pub again : (action_of u ≡ action_of s) ⊎ StopsAtLimit s (action_of u)

-- of every state, over the two events: the loss, or a refusal since the log is full (26), its keeper failed (28) or memory is short (29); and the end of the sleep
abbrev pub RepeatsRequests : Type 0
RepeatsRequests =
    (s t u : BotState) (e : BotEvent) (m n : ℕ) → is_request (action_of s) ≡ true → is_transient e ≡ true →
    stepped s e m ≡ Some t → stepped t event.Slept n ≡ Some u → IsRepeated s t u
