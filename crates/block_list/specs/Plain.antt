-- What contracts see of a list in blocks.
use Rattle.std.specs.Prelude.{ℕ, List}

-- the items in the order of the list, and how many more it takes without memory
pub record BlockListState (T : Type 0) : Type 0 where
  pub items : List T
  pub room : ℕ
