-- What a bot does until a run is cleaned up.
use Rattle.std.specs.Prelude.{◌≡◌, ℕ, Bool, true, false, List, [], ◌∷◌, ◌++◌, All, if◌then◌else◌}
use Rattle.bot_core.specs.Types.{Action, BotEvent, BotLimits}
use Rattle.bot_core.specs.declared.action.Action.TheVariants as action
use Rattle.bot_core.specs.declared.bot_event.BotEvent.TheVariants as event
use Rattle.bot_core.specs.Table.{opening, action_of}
use Rattle.bot_core.specs.States.{Step, steps_of}

abbrev pub is_claim_run : BotEvent → Bool
is_claim_run (event.ClaimRun execution io grace tolerance) = true
is_claim_run e = false

abbrev pub is_clean_up : Action → Bool
is_clean_up action.CleanUp = true
is_clean_up a = false

-- a request by which a bot comes to its next run
abbrev pub asks_for_work : Action → Bool
asks_for_work (action.Handshake first session) = true
asks_for_work action.Poll = true
asks_for_work (action.Claim first session claim) = true
asks_for_work a = false

-- a run is open from the answer to its claim to the answer to its clean-up
abbrev pub is_open_after : Bool → Step → Bool
is_open_after was_open s = if is_claim_run s.event then true else if is_clean_up (action_of s.before) then false else was_open

-- the actions of these steps while a run is open
abbrev pub open_actions : Bool → List Step → List Action
open_actions was_open [] = []
open_actions was_open (s ∷ steps) =
    let now : Bool = is_open_after was_open s in
    (if now then action_of s.after ∷ [] else []) ++ open_actions now steps

-- over every list of events: while a run is open, the bot asks for no work
abbrev pub CleansUpEachRun : Type 0
CleansUpEachRun =
    (limits : BotLimits) (events : List (BotEvent × ℕ)) →
    All (λ a. asks_for_work a ≡ false) (open_actions false (steps_of (opening limits) events))
