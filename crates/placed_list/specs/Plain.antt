-- What contracts see of a list whose items stay where they lie, and of its order.
use Rattle.std.specs.Prelude.{ℕ, List}

-- the items in the order of the list, and how many there may be
pub record PlacedListState (T : Type 0) : Type 0 where
  pub items : List T
  pub room : ℕ

-- the places in their order, and how many there may be
pub record OrderState : Type 0 where
  pub items : List ℕ
  pub room : ℕ
