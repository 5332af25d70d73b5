-- What the list keeps, and what holds of it.
use Rattle.std.specs.Prelude.{◌≤◌, length, vec_capacity}
use Rattle.placed_list.specs.declared.placed_list.PlacedList.TheInside.{Inside}
use Rattle.placed_list.specs.Plain.{PlacedListState}
use Rattle.placed_list.specs.Places.{items_at, ArePlaces}

module _ {T : Type 0} where
  abbrev pub state_of : Inside T → PlacedListState T
  state_of list = record { items = items_at list.items.items list.order.items; room = list.room }

  -- the places are told apart, and no call needs memory for as many items as there may be
  pub record IsKept (list : Inside T) : Type 0 where
    pub places : ArePlaces (length list.items.items) list.order.items list.free.items
    pub few : length list.items.items ≤ list.room
    pub items_room : list.room ≤ vec_capacity list.items
    pub order_room : list.room ≤ list.order.room
    pub free_room : list.room ≤ vec_capacity list.free
