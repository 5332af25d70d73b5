-- The states of a bot over a list of events, and its steps.
use Rattle.std.specs.Prelude.{ℕ, List, [], ◌∷◌}
use Rattle.std.specs.Option.{option_map_or}
use Rattle.bot_core.specs.Types.{BotEvent, BotState}
use Rattle.bot_core.specs.Table.{stepped}

-- the state after each of these events with their moments, up to the first that can't come
abbrev pub states_after : BotState → List (BotEvent × ℕ) → List BotState
states_after s [] = []
states_after s (e ∷ es) = option_map_or (λ t. t ∷ states_after t es) (stepped s e.0 e.1) []

-- an event at a moment, with the state that it finds and the one that it leaves
pub record Step : Type 0 where
  pub before : BotState
  pub event : BotEvent
  pub moment : ℕ
  pub after : BotState

-- the steps by these events, up to the first that can't come
abbrev pub steps_of : BotState → List (BotEvent × ℕ) → List Step
steps_of s [] = []
steps_of s (e ∷ es) =
    option_map_or (λ t. record { before = s; event = e.0; moment = e.1; after = t } ∷ steps_of t es) (stepped s e.0 e.1) []
