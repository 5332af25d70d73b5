-- The sessions and claims that a bot names.
use Rattle.std.specs.Prelude.{◌≡◌, ◌⊎◌, ℕ, ◌<◌, Bool, true, false, List, [], ◌∷◌, ◌++◌}
use Rattle.std.specs.List.{AllPairs}
use Rattle.bot_core.specs.Types.{Action, BotEvent, BotLimits}
use Rattle.bot_core.specs.declared.action.Action.TheVariants as action
use Rattle.bot_core.specs.declared.bot_event.BotEvent.TheVariants as event
use Rattle.bot_core.specs.Table.{opening, action_of}
use Rattle.bot_core.specs.States.{Step, steps_of}

-- the id that a Handshake or a Claim brings, with claim 0 for a Handshake, and whether it is sent again
pub record Id : Type 0 where
  pub session : ℕ
  pub claim : ℕ
  pub again : Bool

-- what is sent behind a sleep is sent again
abbrev pub is_again : BotEvent → Bool
is_again event.Slept = true
is_again e = false

abbrev pub ids_of_action : Bool → Action → List Id
ids_of_action again (action.Handshake first session) = record { session = session; claim = 0; again = again } ∷ []
ids_of_action again (action.Claim first session claim) = record { session = session; claim = claim; again = again } ∷ []
ids_of_action again a = []

-- those of these steps
abbrev pub ids_of : List Step → List Id
ids_of [] = []
ids_of (s ∷ steps) = ids_of_action (is_again s.event) (action_of s.after) ++ ids_of steps

-- a later session, or a later claim of the same session
abbrev pub IsLater : Id → Id → Type 0
IsLater a b = (a.session < b.session) ⊎ ((a.session ≡ b.session) × (a.claim < b.claim))

-- the second one is later, or the same sent again
abbrev pub Follows : Id → Id → Type 0
Follows a b = IsLater a b ⊎ ((a.session ≡ b.session) × (a.claim ≡ b.claim) × (b.again ≡ true))

-- over every list of events: no id is used again for another session or claim
abbrev pub IdsGrow : Type 0
IdsGrow = (limits : BotLimits) (events : List (BotEvent × ℕ)) → AllPairs Follows (ids_of (steps_of (opening limits) events))
