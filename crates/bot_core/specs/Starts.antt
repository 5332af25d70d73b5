-- How often a command is started for a claim.
use Rattle.std.specs.Prelude.{ℕ, ◌+◌, ◌≤◌, ◌==◌, ◌&&◌, Bool, true, false, List, [], ◌∷◌, if◌then◌else◌}
use Rattle.bot_core.specs.Types.{Action, BotEvent, BotLimits, BotState}
use Rattle.bot_core.specs.declared.action.Action.TheVariants as action
use Rattle.bot_core.specs.Table.{opening, action_of}
use Rattle.bot_core.specs.States.{states_after}

abbrev pub is_start : Action → Bool
is_start action.Start = true
is_start a = false

-- it starts a command for the claim with this session and this count
abbrev pub starts_claim : ℕ → ℕ → BotState → Bool
starts_claim session claim s = is_start (action_of s) && (s.session == session && s.claim == claim)

-- how many of the states start it
abbrev pub start_count : ℕ → ℕ → List BotState → ℕ
start_count session claim [] = 0
start_count session claim (s ∷ ss) = (if starts_claim session claim s then 1 else 0) + start_count session claim ss

-- over every list of events a command is started at most once for a claim
abbrev pub StartsOnce : Type 0
StartsOnce =
    (limits : BotLimits) (events : List (BotEvent × ℕ)) (session claim : ℕ) → start_count session claim (states_after (opening limits) events) ≤ 1
