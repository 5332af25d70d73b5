-- What contracts see of the rows of a pool's bots.
use Rattle.std.specs.Prelude.{ℕ, List, Option}
use Rattle.bot_registry.specs.Types.{BotRow, BotParts}

-- the rows, what is made ready of an entry, and how many bots there may be
pub record RegistryState : Type 0 where
  pub rows : List BotRow
  pub ready : Option BotParts
  pub most : ℕ
