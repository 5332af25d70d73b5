-- What is known of the present run by the events and the actions alone.
use Rattle.std.specs.Prelude.{ℕ, ◌&&◌, ◌||◌, not, Bool, true, false, List, [], ◌∷◌, Option, Some, None, if◌then◌else◌}
use Rattle.refusal_codes.specs.Codes.{code_numbered}
use Rattle.bot_core.specs.Types.{Action, Term, BotEvent, BotLimits}
use Rattle.bot_core.specs.declared.action.Action.TheVariants as action
use Rattle.bot_core.specs.declared.bot_event.BotEvent.TheVariants as event
use Rattle.bot_core.specs.Table.{is_transient, is_store_full, opening, action_of}
use Rattle.bot_core.specs.States.{Step, steps_of}

-- how it stood as Term was sent: its moment, whether the server had asked for the end, and since when the command ran and wrote nothing
pub record TermSent : Type 0 where
  pub moment : ℕ
  pub asked : Bool
  pub started : ℕ
  pub last_output : ℕ

-- of the last run that was claimed: its limits, the moments of its start, of its last output and of its last update, each of
-- them at first that of the start, and whether the server has asked for its end, or refused it for good
pub record History : Type 0 where
  pub execution : ℕ
  pub io : ℕ
  pub tolerance : ℕ
  pub started : ℕ
  pub last_output : ℕ
  pub last_send : ℕ
  pub asked : Bool
  pub refused : Bool
  pub term : Option TermSent

abbrev pub claimed : ℕ → ℕ → ℕ → History
claimed execution io tolerance =
    record {
      execution = execution;
      io = io;
      tolerance = tolerance;
      started = 0;
      last_output = 0;
      last_send = 0;
      asked = false;
      refused = false;
      term = None;
    }

-- the update is not sent again: what it says of the run is not wanted any more, unless its output alone had no room (23)
abbrev pub is_for_good : ℕ → Bool
is_for_good number = not (is_transient (event.Refused number)) && not (is_store_full (code_numbered number))

-- an update was refused
abbrev pub after_refusal : Action → ℕ → History → History
after_refusal (action.Send start size last) number h = if is_for_good number then record h { asked = true; refused = true } else h
after_refusal a number h = h

-- an update while the command runs was taken
abbrev pub after_taken : Action → Bool → History → History
after_taken (action.Send start size None) must_stop h = record h { asked = h.asked || must_stop }
after_taken a must_stop h = h

-- this came of this action at a moment
abbrev pub heard : Action → BotEvent → ℕ → History → History
heard a (event.ClaimRun execution io grace tolerance) m h = claimed execution io tolerance
heard a event.Started m h = record h { started = m; last_output = m; last_send = m }
heard a (event.Output size) m h = record h { last_output = m }
heard a (event.SendOk must_stop) m h = after_taken a must_stop h
heard a (event.Refused number) m h = after_refusal a number h
heard a e m h = h

-- this action was chosen at a moment
abbrev pub done : Action → ℕ → History → History
done (action.Send start size last) m h = record h { last_send = m }
done (action.Signal Term) m h = record h { term = Some (record { moment = m; asked = h.asked; started = h.started; last_output = h.last_output }) }
done a m h = h

-- a step of the bot, with what is known as it chooses the action that follows
pub record Choice : Type 0 where
  pub history : History
  pub step : Step

abbrev pub choices : History → List Step → List Choice
choices h [] = []
choices h (s ∷ steps) =
    let now : History = heard (action_of s.before) s.event s.moment h in
    record { history = now; step = s } ∷ choices (done (action_of s.after) s.moment now) steps

-- those of a bot from its begin on
abbrev pub choices_of : BotLimits → List (BotEvent × ℕ) → List Choice
choices_of limits events = choices (claimed 0 0 0) (steps_of (opening limits) events)
